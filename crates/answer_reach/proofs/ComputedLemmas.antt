-- What is computed finds each question that the caller reaches.
use Rattle.std.proofs.Common.{◌≡◌, ◌≢◌, ◌⊎◌, ℕ, List, [], ◌∷◌, ◌++◌, length, Bool, true, false, cond, not, ◌&&◌, ◌||◌, ◌==◌, Option, Some, None, refl, sym, ap, subst, ◌∙◌, inl, inr, arith}
use Rattle.std.specs.List.{list_any, filter, flat_map}
use Rattle.std.proofs.lemmas.Bool.{and_parts, eqb-true, false_from_ne_true}
use Rattle.dns_names.specs.Labels.{IsWithin, IsBelow, is_within}
use Rattle.dns_names.specs.Order.{same_name}
use Rattle.dns_names.proofs.NameLemmas.{is_within-Decides}
use Rattle.dns_data.specs.declared.record.Record.{Record}
use Rattle.dns_data.specs.declared.record_type.RecordType.{RecordType}
use Rattle.dns_data.specs.declared.record_type.RecordType.TheVariants as types
use Rattle.dns_data.specs.declared.rdata.Data.TheVariants as variants
use Rattle.dns_data.specs.Rdata.{type_of}
use Rattle.dns_data.specs.Types.{kept_types}
use Rattle.grant_policy.specs.declared.action.Action.{Action}
use Rattle.grant_policy.specs.declared.action.Action.TheVariants as action
use Rattle.grant_policy.specs.declared.rule.Rule.{Rule}
use Rattle.grant_policy.specs.declared.scope.Scope.{Scope}
use Rattle.grant_policy.specs.declared.scope.Scope.TheVariants as scopes
use Rattle.grant_policy.specs.Isolated.{question}
use Rattle.grant_policy.specs.Rules.{is_of, has, same_type, same_action}
use Rattle.grant_policy.specs.Scopes.{covers}
use Rattle.grant_policy.specs.Decisions.{decision, decided, is_granted}
use Rattle.zone_core.specs.Sets.{key_of, rank_of}
use Rattle.zone_core.specs.Effects.{is_guarded}
use Rattle.zone_core.specs.Views.{AreOfZone}
use Rattle.zone_core.specs.Delegations.{AreNamesOf, IsCutAt, is_below}
use Rattle.zone_core.proofs.SetLemmas.{name_is, name_self, name_other, by_cases}
use Rattle.zone_core.proofs.ZoneLemmas.{both_true}
use Rattle.zone_core.proofs.MetLemmas.{Among, among_of, of_among, is_any}
use Rattle.zone_core.proofs.BelowLemmas.{no_test, within_itself, within_within, below-Decides}
use Rattle.zone_answers.specs.declared.query_type.QueryType.{QueryType}
use Rattle.zone_answers.specs.declared.query_type.QueryType.TheVariants.{Kept}
use Rattle.zone_answers.specs.Answers.{Name, asterisk, Exists, IsOwn, asked_at}
use Rattle.zone_answers.specs.AnswerTests.{is_there, cut_over}
use Rattle.zone_answers.specs.ChangeTests.{up_to}
use Rattle.zone_answers.proofs.SourceLemmas.{there-Decides}
use Rattle.zone_answers.proofs.CutLemmas.{in_turn, within_both, within_or_is, one_more, IsOver, over_is}
use Rattle.zone_answers.proofs.KnownLemmas.{flat_among}
use Rattle.zone_answers.proofs.LawLemmas.{among_flat}
use Rattle.answer_reach.specs.declared.reach_map.ReachMap.{ReachMap}
use Rattle.answer_reach.specs.Turns.{action_for, may}
use Rattle.answer_reach.specs.Reach.{is_type, matters, remains, are_kept_out, has_place, may_come, may_go, may_change, MayUpdate, RecordsMayChange, MayExist, must_exist, StaysCut, AddressMayChange, CutMayChange, ReferralMayChange, OwnMayChange, WildcardMayChange, MayChange}
use Rattle.answer_reach.specs.ReachedGroups.{IsNamed}
use Rattle.answer_reach.specs.ReachTests.{covers_under, decision_under, action_under, may_under, has_name, within_any, below_any, is_cut_off, is_long, named, comes_at, comes_under, updates_at, updates_under, updates, is_cut, stays_cut, server_may_change, cut_may_change, arising_from, staying_from, opens, IsMap, may_exist, child_may_exist, records_may_change, own_may_change, wildcard_may_change, wildcards_may_change, may_change_at, sources_under, may_change_under}
use Rattle.answer_reach.proofs.PossibleLemmas.{first, second, owner_asked, asked_owner, found_among}
use Rattle.answer_reach.proofs.NamedLemmas.{some_kept, has_is, is_has, or_is, within_is, is_within_any, is_below_any, cut_off_is, is_cut_off_any, up_to_is, is_up_to, is_known, known_is, known_above, cover}
use Rattle.answer_reach.proofs.MadeLemmas.{is_one}

-- two tests of which each passes where the other does
pub both_ways : (a b : Bool) → (a ≡ true → b ≡ true) → (b ≡ true → a ≡ true) → a ≡ b
both_ways true b there back = sym (there refl)
both_ways false true there back = back refl
both_ways false false there back = refl

true_not_false : (b : Bool) → b ≡ true → b ≡ false → ⊥
true_not_false b e f = no_test b e f

negated : (b : Bool) → b ≡ false → not b ≡ true
negated true e = absurd cc
negated false e = refl

opened : (b : Bool) → not b ≡ true → b ≡ false
opened true e = absurd cc
opened false e = refl

pub some_there : (xs : List Record) → not (length xs == 0) ≡ true → (r : Record) × Among r xs
some_there [] e = absurd cc
some_there (r ∷ rs) e = (r, inl refl)

is_there_some : (xs : List Record) (r : Record) → Among r xs → not (length xs == 0) ≡ true
is_there_some [] r a = absurd a
is_there_some (x ∷ xs) r a = ap not (false_from_ne_true (length (x ∷ xs) == 0) (λ e. absurd (omega (arith, eqb-true (length (x ∷ xs)) 0 e))))

pub passes_filter : (p : Name → Bool) (xs : List Name) (x : Name) → Among x xs → p x ≡ true → Among x (filter p xs)
passes_filter p [] x a e = absurd a
passes_filter p (y ∷ ys) x a e = by_test (p y) refl (elim a [ inl same ↦ inl same | inr later ↦ inr (passes_filter p ys x later e) ])
  where
    by_test : (b : Bool) → p y ≡ b → (x ≡ y) ⊎ Among x (filter p ys) → Among x (cond b (y ∷ filter p ys) (filter p ys))
    by_test true t here = here
    by_test false t here = (elim here [ inl same ↦ absurd (no_test (p y) (ap p (sym same) ∙ e) t) | inr later ↦ later ])

pub filter_passes : (p : Name → Bool) (xs : List Name) (x : Name) → Among x (filter p xs) → Among x xs × (p x ≡ true)
filter_passes p [] x a = absurd a
filter_passes p (y ∷ ys) x a = by_test (p y) refl a (filter_passes p ys x)
  where
    by_test : (b : Bool) → p y ≡ b → Among x (cond b (y ∷ filter p ys) (filter p ys)) → (Among x (filter p ys) → Among x ys × (p x ≡ true)) → Among x (y ∷ ys) × (p x ≡ true)
    by_test true t here rest = (elim here [ inl same ↦ (inl same, ap p same ∙ t) | inr later ↦ (let found = rest later in (inr found.0, found.1)) ])
    by_test false t here rest = let found = rest here in (inr found.0, found.1)

-- ---- names at or below which no rule is

module _ (rules : List Rule) (caller : List ℕ) (label : List ℕ) (above : Name) (name : Name) (below : IsWithin name (label ∷ above)) where
  within_same : (at : Name) → ¬ IsWithin at (label ∷ above) → is_within name at ≡ is_within above at
  within_same at away = both_ways (is_within name at) (is_within above at) up down
    where
      up : is_within name at ≡ true → is_within above at ≡ true
      up e = (elim (in_turn name at (label ∷ above) ((is_within-Decides name at).0 e) below) [
        | inl inside ↦ absurd (away inside)
        | inr over ↦ (elim (within_or_is label above at over) [
          | inl same ↦ absurd (away (subst (λ (n : Name). IsWithin n (label ∷ above)) (sym same) (within_itself (label ∷ above))))
          | inr higher ↦ (is_within-Decides above at).1 higher
        ])
      ])

      down : is_within above at ≡ true → is_within name at ≡ true
      down e = (is_within-Decides name at).1 (within_within name (label ∷ above) at below (one_more label above at ((is_within-Decides above at).0 e)))

  covers_same : (scope : Scope) (at : Name) → ¬ IsWithin at (label ∷ above) → covers scope at name ≡ covers_under scope at above
  covers_same scopes.Name at away = name_other name at (λ same. away (subst (λ (n : Name). IsWithin n (label ∷ above)) same below))
  covers_same scopes.Subtree at away = within_same at away
  covers_same scopes.Below at away =
      let differ : same_name name at ≡ false = name_other name at (λ same. away (subst (λ (n : Name). IsWithin n (label ∷ above)) same below)) in
      ap (λ b. is_within name at && not b) differ ∙ and_true (is_within name at) ∙ within_same at away
    where
      and_true : (b : Bool) → (b && true) ≡ b
      and_true true = refl
      and_true false = refl

  decided_same : (t : RecordType) (a : Action) (some : List Rule) → ((rule : Rule) → Among rule some → ¬ IsWithin rule.at (label ∷ above))
      → decision (question caller name t a) some ≡ decision_under (question caller above t a) some
  decided_same t a [] away = refl
  decided_same t a (rule ∷ some) away =
      let cover = covers_same rule.scope rule.at (away rule (inl refl)) in
      λ i. cond (is_of rule.callers caller && (cover i && (has same_type rule.types t && has same_action rule.actions a))) (decided rule) (decided_same t a some (λ r m. away r (inr m)) i)

  module _ (origin : Name) (other : name ≢ origin) (away : (rule : Rule) → Among rule rules → ¬ IsWithin rule.at (label ∷ above)) where
    action_same : (change : Action) (t : RecordType) → action_for origin change name t ≡ action_under change t
    action_same change types.Ns = ap (λ b. cond (not b) action.Delegate change) (name_other name origin other)
    action_same change types.Ds = refl
    action_same change t = refl

    pub may_same : (change : Action) (t : RecordType) → may rules caller origin change name t ≡ may_under rules caller change above t
    may_same change t =
        ap (λ (a : Action). is_granted (decision (question caller name t a) rules)) (action_same change t)
        ∙ ap is_granted (decided_same t (action_under change t) rules away)

module _ (rules : List Rule) (caller : List ℕ) (origin : Name) (rs : List Record) (zone : AreOfZone origin rs) (names : List Name) (known : AreNamesOf names (named origin rules rs))
    (m : ReachMap) (is : IsMap rules caller origin rs names m) where
  pub home : Among origin names
  home =
      let one = zone.zone.soa in
      is_known origin rules rs names known origin (within_itself origin)
      (inl (one.0, of_among rs one.0 (found_among rs (key_of one.0) one.0 one.1.here).0, ([], one.1.origin)))

  -- a name that exists is known
  there_known : (n : Name) → IsWithin n origin → Exists rs n → Among n names
  there_known n inside there = is_known origin rules rs names known n inside (inl there)

  -- ---- what may come

  come_parts : (n : Name) (t : RecordType) → may_come rules caller origin rs n t ≡ true → (IsWithin n origin) × ((may rules caller origin action.Add n t ≡ true) × (has_place origin n t ≡ true))
  come_parts n t e =
      let parts = and_parts (is_within n origin) (may rules caller origin action.Add n t && (has_place origin n t && not (are_kept_out rules caller origin rs n t))) e in
      let more = and_parts (may rules caller origin action.Add n t) (has_place origin n t && not (are_kept_out rules caller origin rs n t)) parts.1 in
      ((is_within-Decides n origin).0 parts.0, (more.0, (and_parts (has_place origin n t) (not (are_kept_out rules caller origin rs n t)) more.1).0))

  -- below a known name, where no name is known
  module _ (label : List ℕ) (above : Name) (free : ¬ Among (label ∷ above) names) (inside : IsWithin (label ∷ above) origin) where
    not_named : ¬ IsNamed rules rs (label ∷ above)
    not_named n = free (is_known origin rules rs names known (label ∷ above) inside n)

    not_there : (n : Name) → IsWithin n (label ∷ above) → ¬ Exists rs n
    not_there n below there = not_named (inl (there.0, there.1, within_within there.0.owner n (label ∷ above) there.2 below))

    not_home : (n : Name) → IsWithin n (label ∷ above) → n ≢ origin
    not_home n below e = not_there n below (subst (Exists rs) (sym e) (let one = zone.zone.soa in (one.0, of_among rs one.0 (found_among rs (key_of one.0) one.0 one.1.here).0, ([], one.1.origin))))

    no_rule : (rule : Rule) → Among rule rules → ¬ IsWithin rule.at (label ∷ above)
    no_rule rule a up = not_named (inr (inr (rule, of_among rules rule a, up)))

    same_under : (n : Name) → IsWithin n (label ∷ above) → (change : Action) (t : RecordType) → may rules caller origin change n t ≡ may_under rules caller change above t
    same_under n below change t = may_same rules caller label above n below origin (not_home n below) no_rule change t

    under_by : (n : Name) (t : RecordType) → IsWithin n (label ∷ above) → may_come rules caller origin rs n t ≡ true → comes_under rules caller origin rs above ≡ true
    under_by n t below e =
        let parts = come_parts n t e in
        some_kept (λ t. not (is_type t types.Soa) && may_under rules caller action.Add above t) t
        (both_true (not (is_type t types.Soa)) (may_under rules caller action.Add above t) (negated (is_type t types.Soa) (false_from_ne_true (is_type t types.Soa) (λ s.
        not_home n below (name_is n origin (sym (ap (has_place origin n) (is_one t types.Soa s)) ∙ parts.1.1)))))
        (sym (same_under n below action.Add t) ∙ parts.1.0))

    under_has : Among above names → comes_under rules caller origin rs above ≡ true → has_name m.under.items above ≡ true
    under_has a e = is_has m.under.items above (subst (λ (l : List Name). Among above l) (sym is.under) (passes_filter (comes_under rules caller origin rs) names above a e))

  -- a known name at or above one where something may come
  arises : (b : Name) (t : RecordType) → may_come rules caller origin rs b t ≡ true → (n : Name) → Among n names → IsWithin b n → Among n m.arising.items
  arises b t e n a up = among_of m.arising.items n ((is.arising.members n).1 (of_among (flat_map (arising_from rules caller origin rs) names) n (by_known (has_name names b) refl)))
    where
      inside : IsWithin b origin
      inside = (come_parts b t e).0

      home_n : IsWithin n origin
      home_n = (known_is origin rules rs names known n a).0

      from_one : (k : Name) → Among k names → IsWithin k n → (comes_at rules caller origin rs k || comes_under rules caller origin rs k) ≡ true → Among n (flat_map (arising_from rules caller origin rs) names)
      from_one k here up comes =
          flat_among (arising_from rules caller origin rs) names k n here
          (subst (λ (l : List Name). Among n l) (sym (ap (λ c. cond c (up_to origin k) []) comes)) (is_up_to origin k n up home_n))

      by_known : (c : Bool) → has_name names b ≡ c → Among n (flat_map (arising_from rules caller origin rs) names)
      by_known true k =
          from_one b (has_is names b k) up (first (comes_at rules caller origin rs b) (comes_under rules caller origin rs b) (some_kept (may_come rules caller origin rs b) t e))
      by_known false k =
          let found = cover origin rules rs names known home b inside (λ here. no_test (has_name names b) (is_has names b here) k) in
          let label = found.1 in
          let above = found.2 in
          let below : IsWithin b (label ∷ above) = (found.0, found.3) in
          let above_inside : IsWithin (label ∷ above) origin = inner label above found.4 in
          let over : IsWithin above n = (elim (in_turn b n (label ∷ above) up below) [
            | inl under ↦ absurd (found.5 (known_above origin rules rs names known n (label ∷ above) a under above_inside))
            | inr over ↦ (elim (within_or_is label above n over) [ inl same ↦ absurd (found.5 (subst (λ (x : Name). Among x names) same a)) | inr higher ↦ higher ])
          ]) in
          from_one above found.4 over (second (comes_at rules caller origin rs above) (comes_under rules caller origin rs above) (under_by label above found.5 above_inside b t below e))
        where
          inner : (label : List ℕ) (above : Name) → Among above names → IsWithin (label ∷ above) origin
          inner label above here = one_more label above origin (known_is origin rules rs names known above here).0

  may_exist_is : (n : Name) → Among n names → MayExist rules caller origin rs n → may_exist rules caller origin rs m n ≡ true
  may_exist_is n a may = (elim may [
    | inl there ↦ first (is_there rs n) (has_name m.arising.items n) ((there-Decides rs n).1 there)
    | inr come ↦ second (is_there rs n) (has_name m.arising.items n) (is_has m.arising.items n (arises come.0 come.1 come.3 n a come.2))
  ])

  above_inside : (label : List ℕ) (above : Name) → Among above names → IsWithin (label ∷ above) origin
  above_inside label above here = one_more label above origin (known_is origin rules rs names known above here).0

  child_is : (above : Name) → Among above names → (label : List ℕ) → MayExist rules caller origin rs (label ∷ above) → child_may_exist rules caller origin rs m above (label ∷ above) ≡ true
  child_is above a label may = (elim may [
    | inl there ↦ first (is_there rs (label ∷ above)) _ ((there-Decides rs (label ∷ above)).1 there)
    | inr come ↦ second (is_there rs (label ∷ above)) _ (by_cases (has_name names (label ∷ above)) ((has_name m.arising.items (label ∷ above) || has_name m.under.items above) ≡ true)
        (λ k. first (has_name m.arising.items (label ∷ above)) _ (is_has m.arising.items (label ∷ above) (arises come.0 come.1 come.3 (label ∷ above) (has_is names (label ∷ above) k) come.2)))
        (λ k.
        let free : ¬ Among (label ∷ above) names = λ here. no_test (has_name names (label ∷ above)) (is_has names (label ∷ above) here) k in
        second (has_name m.arising.items (label ∷ above)) (has_name m.under.items above)
        (under_has label above free (above_inside label above a) a (under_by label above free (above_inside label above a) come.0 come.1 come.2 come.3))))
  ])

  -- ---- what stays

  staying_must : (n : Name) → has_name m.staying.items n ≡ true → must_exist rules caller origin rs n ≡ true
  staying_must n e =
      let among = has_is m.staying.items n e in
      let by = among_flat (staying_from rules caller origin rs) rs n (among_of (flat_map (staying_from rules caller origin rs) rs) n ((is.staying.members n).0 (of_among m.staying.items n among))) in
      by_test by.0 by.1 (remains rules caller origin by.0) refl by.2
    where
      by_test : (r : Record) → Among r rs → (b : Bool) → remains rules caller origin r ≡ b → Among n (cond b (up_to origin r.owner) []) → must_exist rules caller origin rs n ≡ true
      by_test r a true t here =
          is_any (λ r. is_within r.owner n && remains rules caller origin r) rs r a (both_true (is_within r.owner n) (remains rules caller origin r) ((is_within-Decides r.owner n).1 (up_to_is origin r.owner n here).0) t)
      by_test r a false t here = absurd here

  not_staying : (n : Name) → must_exist rules caller origin rs n ≡ false → not (has_name m.staying.items n) ≡ true
  not_staying n e = negated (has_name m.staying.items n) (false_from_ne_true (has_name m.staying.items n) (λ t. no_test (must_exist rules caller origin rs n) (staying_must n t) e))

  -- ---- records

  may_update : MayUpdate rules caller origin → m.serial ≡ true
  may_update u = is.serial ∙ by_known (has_name names u.name) refl
    where
      inside : IsWithin u.name origin
      inside = (is_within-Decides u.name origin).0 u.inside

      at_once : (add delete : Bool) → (change : Action) → ((change ≡ action.Add) ⊎ (change ≡ action.Delete)) → ((change ≡ action.Add) → add ≡ true) → ((change ≡ action.Delete) → delete ≡ true) → (add || delete) ≡ true
      at_once add delete change kind a d = (elim kind [ inl e ↦ first add delete (a e) | inr e ↦ second add delete (d e) ])

      by_known : (b : Bool) → has_name names u.name ≡ b → list_any (updates rules caller origin rs) names ≡ true
      by_known true k =
          is_any (updates rules caller origin rs) names u.name (has_is names u.name k)
          (first (updates_at rules caller origin rs u.name) (updates_under rules caller origin rs u.name)
          (some_kept (λ t. may rules caller origin action.Add u.name t || may rules caller origin action.Delete u.name t) u.record_type
          (at_once _ _ u.change u.kind (λ e. ap (λ (c : Action). may rules caller origin c u.name u.record_type) (sym e) ∙ u.granted) (λ e. ap (λ (c : Action). may rules caller origin c u.name u.record_type) (sym e) ∙ u.granted))))
      by_known false k =
          let found = cover origin rules rs names known home u.name inside (λ here. no_test (has_name names u.name) (is_has names u.name here) k) in
          let label = found.1 in
          let above = found.2 in
          let below : IsWithin u.name (label ∷ above) = (found.0, found.3) in
          let same = same_under label above found.5 (above_inside label above found.4) u.name below in
          is_any (updates rules caller origin rs) names above found.4
          (second (updates_at rules caller origin rs above) (updates_under rules caller origin rs above)
          (some_kept (λ t. may_under rules caller action.Add above t || may_under rules caller action.Delete above t) u.record_type
          (at_once _ _ u.change u.kind (λ e. sym (same action.Add u.record_type) ∙ ap (λ (c : Action). may rules caller origin c u.name u.record_type) (sym e) ∙ u.granted)
          (λ e. sym (same action.Delete u.record_type) ∙ ap (λ (c : Action). may rules caller origin c u.name u.record_type) (sym e) ∙ u.granted))))

  records_are : (n : Name) (asked : QueryType) → RecordsMayChange rules caller origin rs n asked → records_may_change rules caller origin rs m n asked ≡ true
  records_are n asked may =
      let t = may.0 in
      (elim (may.2) [
        | inl change ↦ first (list_any (λ t. matters asked t && may_change rules caller origin rs n t) kept_types) _
            (some_kept (λ t. matters asked t && may_change rules caller origin rs n t) t (both_true (matters asked t) (may_change rules caller origin rs n t) may.1 change))
        | inr serial ↦ second (list_any (λ t. matters asked t && may_change rules caller origin rs n t) kept_types) _
            (both_true m.serial _ (may_update serial.2) (both_true (same_name n origin) (matters asked types.Soa) (ap (λ (x : Name). same_name x origin) serial.0 ∙ name_self origin) (ap (matters asked) (sym serial.1) ∙ may.1)))
      ])

  -- ---- cuts

  stays_is : (c : Name) → stays_cut rules caller origin rs c ≡ true → StaysCut rules caller origin rs c
  stays_is c e =
      let both = and_parts (is_cut rules caller origin rs c) (not (may_change rules caller origin rs c types.Ns)) e in
      let cut = and_parts (is_below c origin) (not (length (asked_at rs c (Kept types.Ns)) == 0)) both.0 in
      let some = some_there (asked_at rs c (Kept types.Ns)) cut.1 in
      let own = owner_asked rs c types.Ns some.0 some.1 in
      (((below-Decides c origin).0 cut.0, (some.0, of_among rs some.0 own.0, own.1, own.2)), opened (may_change rules caller origin rs c types.Ns) both.1)

  pub cut_is_stays : (c : Name) → Among c m.cuts.items → Among c names × StaysCut rules caller origin rs c
  cut_is_stays c a =
      let found = filter_passes (stays_cut rules caller origin rs) names c (subst (λ (l : List Name). Among c l) is.cuts a) in
      (found.0, stays_is c found.1)

  -- the zone answers by itself: no cut that stays is at or above the name
  pub not_cut_off : (name : Name) (asked : QueryType) → IsOwn origin rs name asked → (c : Name) → Among c m.cuts.items → IsWithin name c → ¬ ((name ≡ c) × (asked ≡ Kept types.Ds)) → ⊥
  not_cut_off name asked own c a within other = by_over (cut_over origin rs name) (over_is origin rs name)
    where
      cut : IsCutAt origin rs c
      cut = (cut_is_stays c a).1.0

      by_over : (o : Option Name) → IsOver origin rs name o → ⊥
      by_over None none = none c cut within
      by_over (Some top) over = own.1 top (over, λ same. other ((within_both name c within (subst (IsWithin c) (sym same.0) (over.outermost c cut within))), same.1))

  change_known : (a : Name) → IsWithin a origin → ¬ Among a names → may_change rules caller origin rs a types.Ns ≡ true → may_come rules caller origin rs a types.Ns ≡ true
  change_known a inside free e = (elim (or_is (may_come rules caller origin rs a types.Ns) (may_go rules caller origin rs a types.Ns) e) [
    | inl come ↦ come
    | inr go ↦
        (let some = some_there (asked_at rs a (Kept types.Ns)) (and_parts (may rules caller origin action.Delete a types.Ns) (not (length (asked_at rs a (Kept types.Ns)) == 0)) go).1 in
        let own = owner_asked rs a types.Ns some.0 some.1 in
        absurd (free (there_known a inside (some.0, of_among rs some.0 own.0, ([], own.1)))))
  ])

  opener : (a : Name) → Among a names → CutMayChange rules caller origin rs a → ((top : Name) → StaysCut rules caller origin rs top → ¬ IsBelow a top) → Among a m.openers.items
  opener a among may clear = subst (λ (l : List Name). Among a l) (sym is.openers) (passes_filter (opens rules caller origin rs m.cuts.items) names a among (both_true (cut_may_change rules caller origin rs a) (not (below_any m.cuts.items a)) changes (negated (below_any m.cuts.items a) (false_from_ne_true (below_any m.cuts.items a) (λ e.
      let found = is_below_any m.cuts.items a e in clear found.0 (cut_is_stays found.0 found.1).1 found.2)))))
    where
      servers : AddressMayChange rules caller origin rs a → list_any (λ r. server_may_change rules caller origin rs r.rdata) (asked_at rs a (Kept types.Ns)) ≡ true
      servers address =
          let r = address.1.0 in
          let server = address.0 in
          let data_is : r.rdata ≡ variants.Ns server = address.1.3 in
          let type : type_of r.rdata ≡ types.Ns = ap type_of data_is in
          is_any (λ r. server_may_change rules caller origin rs r.rdata) (asked_at rs a (Kept types.Ns)) r (asked_owner rs a types.Ns r (among_of rs r address.1.1) address.1.2 type)
          (ap (server_may_change rules caller origin rs) data_is ∙ (elim (address.2) [ inl e ↦ first (may_change rules caller origin rs server types.A) _ e | inr e ↦ second (may_change rules caller origin rs server types.A) _ e ]))

      changes : cut_may_change rules caller origin rs a ≡ true
      changes =
          both_true (is_below a origin) _ ((below-Decides a origin).1 may.0) (elim (may.1) [
            | inl ns ↦ first (may_change rules caller origin rs a types.Ns) _ ns
            | inr address ↦ second (may_change rules caller origin rs a types.Ns) _ (servers address)
          ])

  -- ---- wildcards

  wildcard_is : (above : Name) → Among above names → (nearer : Bool) (asked : QueryType) → MayExist rules caller origin rs (asterisk ∷ above)
      → ((must_exist rules caller origin rs (asterisk ∷ above) ≡ false) ⊎ ((nearer ≡ true) ⊎ RecordsMayChange rules caller origin rs (asterisk ∷ above) asked)) → wildcard_may_change rules caller origin rs m above nearer asked ≡ true
  wildcard_is above a nearer asked there changes = by_long (is_long above)
    where
      some : (child_may_exist rules caller origin rs m above (asterisk ∷ above) && (not (has_name m.staying.items (asterisk ∷ above)) || (nearer || records_may_change rules caller origin rs m (asterisk ∷ above) asked))) ≡ true
      some = both_true (child_may_exist rules caller origin rs m above (asterisk ∷ above)) _ (child_is above a asterisk there) (elim changes [
        | inl must ↦ first (not (has_name m.staying.items (asterisk ∷ above))) _ (not_staying (asterisk ∷ above) must)
        | inr other ↦ second (not (has_name m.staying.items (asterisk ∷ above))) _ (elim other [
          | inl near ↦ first nearer _ near
          | inr records ↦ second nearer _ (records_are (asterisk ∷ above) asked records)
        ])
      ])

      by_long : (b : Bool) → cond b true (child_may_exist rules caller origin rs m above (asterisk ∷ above) && (not (has_name m.staying.items (asterisk ∷ above)) || (nearer || records_may_change rules caller origin rs m (asterisk ∷ above) asked))) ≡ true
      by_long true = refl
      by_long false = some

  -- the origin is there whatever the caller does
  origin_stays : (n : Name) → IsWithin origin n → must_exist rules caller origin rs n ≡ true
  origin_stays n up =
      let one = zone.zone.soa in
      let r = one.0 in
      is_any (λ r. is_within r.owner n && remains rules caller origin r) rs r (found_among rs (key_of r) r one.1.here).0
      (both_true (is_within r.owner n) (remains rules caller origin r) ((is_within-Decides r.owner n).1 (subst (λ (x : Name). IsWithin x n) (sym one.1.origin) up))
      (second (not (may rules caller origin action.Delete r.owner (type_of r.rdata))) _
      (both_true (same_name r.owner origin) _ (ap (λ (x : Name). same_name x origin) one.1.origin ∙ name_self origin) (ap (λ (t : RecordType). is_guarded (rank_of t)) one.1.type))))

  wildcards_are : (name : Name) → Among name names → (asked : QueryType) → WildcardMayChange rules caller origin rs name asked → wildcards_may_change rules caller origin rs m name asked ≡ true
  wildcards_are name among asked w = by_front name among w.front w.split
    where
      by_front : (name : Name) → Among name names → (front : Name) → name ≡ front ++ w.label ∷ w.encloser → wildcards_may_change rules caller origin rs m name asked ≡ true
      by_front [] among [] e = absurd cc
      by_front [] among (f ∷ front) e = absurd cc
      by_front (label ∷ labels) among [] e =
          let same : labels ≡ w.encloser = cc in
          let whole : label ∷ labels ≡ w.label ∷ w.encloser = e in
          let must : must_exist rules caller origin rs (label ∷ labels) ≡ false = ap (must_exist rules caller origin rs) whole ∙ w.applies in
          let inside : IsWithin labels origin = (elim (within_or_is label labels origin (known_is origin rules rs names known (label ∷ labels) among).0) [
            | inl home ↦ absurd (no_test (must_exist rules caller origin rs (label ∷ labels)) (origin_stays (label ∷ labels) (subst (IsWithin origin) home (within_itself origin))) must)
            | inr up ↦ up
          ]) in
          let above : Among labels names = known_above origin rules rs names known (label ∷ labels) labels among (one_more label labels labels (within_itself labels)) inside in
          let changes : (must_exist rules caller origin rs (asterisk ∷ labels) ≡ false) ⊎ ((may_exist rules caller origin rs m (label ∷ labels) ≡ true) ⊎ RecordsMayChange rules caller origin rs (asterisk ∷ labels) asked) = (elim (w.changes) [
            | inl must ↦ inl (ap (λ (x : Name). must_exist rules caller origin rs (asterisk ∷ x)) same ∙ must)
            | inr other ↦ (elim other [
              | inl near ↦ inr (inl (may_exist_is (label ∷ labels) among (subst (MayExist rules caller origin rs) (sym whole) near)))
              | inr records ↦ inr (inr (subst (λ (x : Name). RecordsMayChange rules caller origin rs (asterisk ∷ x) asked) (sym same) records))
            ])
          ]) in
          first _ (wildcards_may_change rules caller origin rs m labels asked)
          (both_true (not (has_name m.staying.items (label ∷ labels))) _ (not_staying (label ∷ labels) must)
          (wildcard_is labels above (may_exist rules caller origin rs m (label ∷ labels)) asked (subst (λ (x : Name). MayExist rules caller origin rs (asterisk ∷ x)) (sym same) w.there) changes))
      by_front (label ∷ labels) among (f ∷ front) e =
          let rest : labels ≡ front ++ w.label ∷ w.encloser = cc in
          let inside : IsWithin labels origin = (elim (within_or_is label labels origin (known_is origin rules rs names known (label ∷ labels) among).0) [
            | inl home ↦ absurd (no_test (must_exist rules caller origin rs (w.label ∷ w.encloser))
                (origin_stays (w.label ∷ w.encloser) (subst (λ (x : Name). IsWithin x (w.label ∷ w.encloser)) (sym home) (f ∷ front, e))) w.applies)
            | inr up ↦ up
          ]) in
          second _ (wildcards_may_change rules caller origin rs m labels asked)
          (by_front labels (known_above origin rules rs names known (label ∷ labels) labels among (one_more label labels labels (within_itself labels)) inside) front rest)

  -- ---- at a known name

  pub at_known : (name : Name) → Among name names → (asked : QueryType) → MayChange rules caller origin rs name asked → may_change_at rules caller origin rs m name asked ≡ true
  at_known name among asked may = (elim (may.1) [
    | inl referral ↦
        second m.soa _ (first (is_cut_off m.openers.items name asked) _
        (cut_off_is m.openers.items name asked referral.0 (opener referral.0 (known_above origin rules rs names known name referral.0 among referral.1 referral.2.0.0) referral.2 referral.4) referral.1 referral.3))
    | inr other ↦ (elim other [
      | inl own ↦
          second m.soa _ (second (is_cut_off m.openers.items name asked) _ (both_true (not (is_cut_off m.cuts.items name asked)) _
          (negated (is_cut_off m.cuts.items name asked) (false_from_ne_true (is_cut_off m.cuts.items name asked) (λ e.
          let found = is_cut_off_any m.cuts.items name asked e in not_cut_off name asked own.0 found.0 found.1 found.2 found.3)))
          (elim (own.1) [
            | inl mine ↦ first (own_may_change rules caller origin rs m name asked) _ (own_is mine)
            | inr wild ↦ second (own_may_change rules caller origin rs m name asked) _ (wildcards_are name among asked wild)
          ])))
      | inr soa ↦ first m.soa _ (is.soa ∙ soa)
    ])
  ])
    where
      own_is : OwnMayChange rules caller origin rs name asked → own_may_change rules caller origin rs m name asked ≡ true
      own_is mine =
          both_true (may_exist rules caller origin rs m name) _ (may_exist_is name among mine.0) (elim (mine.1) [
            | inl must ↦ first (not (has_name m.staying.items name)) _ (not_staying name must)
            | inr records ↦ second (not (has_name m.staying.items name)) _ (records_are name asked records)
          ])

  -- ---- below a known name

  module _ (label : List ℕ) (above : Name) (a : Among above names) (free : ¬ Among (label ∷ above) names) (name : Name) (below : IsWithin name (label ∷ above)) (asked : QueryType) where
    inside : IsWithin (label ∷ above) origin
    inside = above_inside label above a

    name_above : IsWithin name above
    name_above = within_within name (label ∷ above) above below (one_more label above above (within_itself above))

    has_under : (n : Name) (t : RecordType) → IsWithin n (label ∷ above) → may_come rules caller origin rs n t ≡ true → has_name m.under.items above ≡ true
    has_under n t b e = under_has label above free inside a (under_by label above free inside n t b e)

    -- what may exist there may come
    exist_under : (n : Name) → IsWithin n (label ∷ above) → MayExist rules caller origin rs n → has_name m.under.items above ≡ true
    exist_under n b may = (elim may [
      | inl there ↦ absurd (not_there label above free inside n b there)
      | inr come ↦ has_under come.0 come.1 (within_within come.0 n (label ∷ above) come.2 b) come.3
    ])

    known_apart : (n c : Name) → IsWithin n (label ∷ above) → Among c names → n ≢ c
    known_apart n c b here e = free (known_above origin rules rs names known c (label ∷ above) here (subst (λ (x : Name). IsWithin x (label ∷ above)) e b) inside)

    clear : ((c : Name) → Among c m.cuts.items → ¬ IsWithin above c) → not (within_any m.cuts.items above) ≡ true
    clear none = negated (within_any m.cuts.items above) (false_from_ne_true (within_any m.cuts.items above) (λ e. let found = is_within_any m.cuts.items above e in none found.0 found.1 found.2))

    own_clear : IsOwn origin rs name asked → not (within_any m.cuts.items above) ≡ true
    own_clear own = clear (λ c here up. not_cut_off name asked own c here (within_within name above c name_above up) (λ same. known_apart name c below (cut_is_stays c here).0 same.0))

    open_under : (b : Bool) → b ≡ true → not (within_any m.cuts.items above) ≡ true → b ≡ sources_under rules caller origin rs m above asked → may_change_under rules caller origin rs m above asked ≡ true
    open_under b e none same =
        second m.soa _ (second (within_any m.openers.items above) _ (both_true (not (within_any m.cuts.items above)) (sources_under rules caller origin rs m above asked) none (sym same ∙ e)))

    referral_under : ReferralMayChange rules caller origin rs name asked → may_change_under rules caller origin rs m above asked ≡ true
    referral_under referral = (elim (in_turn name referral.0 (label ∷ above) referral.1 below) [
      | inl deep ↦ lower deep
      | inr over ↦ (elim (within_or_is label above referral.0 over) [
        | inl same ↦ lower (subst (λ (x : Name). IsWithin x (label ∷ above)) (sym same) (within_itself (label ∷ above)))
        | inr higher ↦ second m.soa _ (first (within_any m.openers.items above) _ (within_is m.openers.items above referral.0
            (opener referral.0 (known_above origin rules rs names known above referral.0 a higher referral.2.0.0) referral.2 referral.4) higher))
      ])
    ])
      where
        lower : IsWithin referral.0 (label ∷ above) → may_change_under rules caller origin rs m above asked ≡ true
        lower deep =
            let cut = referral.0 in
            let within = within_within cut (label ∷ above) origin deep inside in
            let not_known : ¬ Among cut names = λ here. free (known_above origin rules rs names known cut (label ∷ above) here deep inside) in
            let come : may_come rules caller origin rs cut types.Ns ≡ true = (elim (referral.2.1) [
              | inl ns ↦ change_known cut within not_known ns
              | inr address ↦ absurd (not_there label above free inside cut deep (address.1.0, address.1.1, ([], address.1.2)))
            ]) in
            let has = has_under cut types.Ns deep come in
            let none = clear (λ c here up.
            referral.4 c (cut_is_stays c here).1 (within_within cut above c (within_within cut (label ∷ above) above deep (one_more label above above (within_itself above))) up, known_apart cut c deep (cut_is_stays c here).0)) in
            open_under (sources_under rules caller origin rs m above asked) (first (has_name m.under.items above) _ has) none refl

    wildcard_under : WildcardMayChange rules caller origin rs name asked → sources_under rules caller origin rs m above asked ≡ true
    wildcard_under w = (elim (in_turn name (w.label ∷ w.encloser) (label ∷ above) (w.front, w.split) below) [
      | inl deep ↦ (elim (within_or_is w.label w.encloser (label ∷ above) deep) [
        | inl same ↦ at_level same
        | inr deeper ↦ first (has_name m.under.items above) _ (exist_under (asterisk ∷ w.encloser) (one_more asterisk w.encloser (label ∷ above) deeper) w.there)
      ])
      | inr over ↦ (elim (within_or_is label above (w.label ∷ w.encloser) over) [
        | inl same ↦ at_level (sym same)
        | inr higher ↦ second (has_name m.under.items above) _ (first (wildcards_may_change rules caller origin rs m above asked) _ (wildcards_are above a asked (record {
          front = higher.0;
          label = w.label;
          encloser = w.encloser;
          split = higher.1;
          there = w.there;
          applies = w.applies;
          changes = w.changes;
        })))
      ])
    ])
      where
        at_level : label ∷ above ≡ w.label ∷ w.encloser → sources_under rules caller origin rs m above asked ≡ true
        at_level same =
            let encloser : above ≡ w.encloser = cc in
            let there : MayExist rules caller origin rs (asterisk ∷ above) = subst (λ (x : Name). MayExist rules caller origin rs (asterisk ∷ x)) (sym encloser) w.there in
            (elim (w.changes) [
              | inl must ↦ by_wildcard there (inl (ap (λ (x : Name). must_exist rules caller origin rs (asterisk ∷ x)) encloser ∙ must))
              | inr other ↦ (elim other [
                | inl near ↦ first (has_name m.under.items above) _ (exist_under (label ∷ above) (within_itself (label ∷ above)) (subst (MayExist rules caller origin rs) (sym same) near))
                | inr records ↦ by_wildcard there (inr (inr (subst (λ (x : Name). RecordsMayChange rules caller origin rs (asterisk ∷ x) asked) (sym encloser) records)))
              ])
            ])
          where
            by_wildcard : MayExist rules caller origin rs (asterisk ∷ above)
                → ((must_exist rules caller origin rs (asterisk ∷ above) ≡ false) ⊎ ((false ≡ true) ⊎ RecordsMayChange rules caller origin rs (asterisk ∷ above) asked)) → sources_under rules caller origin rs m above asked ≡ true
            by_wildcard there changes =
                second (has_name m.under.items above) _ (second (wildcards_may_change rules caller origin rs m above asked) _ (wildcard_is above a false asked there changes))

    pub under_known : MayChange rules caller origin rs name asked → may_change_under rules caller origin rs m above asked ≡ true
    under_known may = (elim (may.1) [
      | inl referral ↦ referral_under referral
      | inr other ↦ (elim other [
        | inl own ↦ open_under (sources_under rules caller origin rs m above asked) (elim (own.1) [
          | inl mine ↦ first (has_name m.under.items above) _ (exist_under name below mine.0)
          | inr wild ↦ wildcard_under wild
        ]) (own_clear own.0) refl
        | inr soa ↦ first m.soa _ (is.soa ∙ soa)
      ])
    ])
