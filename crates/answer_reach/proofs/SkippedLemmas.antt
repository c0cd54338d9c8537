-- A name where nothing can change, and no alias answers, has no rows.
use Rattle.std.proofs.Common.{◌≡◌, ℕ, ◌+◌, suc, ◌≤◌, List, [], ◌∷◌, ◌++◌, map, length, Bool, true, false, cond, not, ◌&&◌, ◌||◌, ◌==◌, Option, Some, None, is_some, refl, sym, ap, subst, ◌∙◌, inl, inr, arith}
use Rattle.std.specs.List.{Contains, list_any, filter, flat_map}
use Rattle.std.proofs.lemmas.Bool.{and_parts, or_cases, ne_eqb, false_from_ne_true}
use Rattle.dns_names.specs.Labels.{IsWithin, is_within, wire_len}
use Rattle.dns_names.specs.Order.{same_name}
use Rattle.dns_names.proofs.NameLemmas.{is_within-Decides}
use Rattle.dns_data.specs.declared.record.Record.{Record}
use Rattle.dns_data.specs.declared.record_type.RecordType.{RecordType}
use Rattle.dns_data.specs.declared.record_type.RecordType.TheVariants as types
use Rattle.dns_data.specs.declared.rdata.Data.{Data}
use Rattle.dns_data.specs.declared.rdata.Data.TheVariants as variants
use Rattle.dns_data.specs.Rdata.{type_of}
use Rattle.dns_data.specs.Types.{kept_types}
use Rattle.grant_policy.specs.declared.rule.Rule.{Rule}
use Rattle.zone_core.specs.Sets.{key_of}
use Rattle.zone_core.specs.Zones.{first_of}
use Rattle.zone_core.specs.Views.{AreOfZone}
use Rattle.zone_core.proofs.ZoneLemmas.{both_true}
use Rattle.zone_core.proofs.MetLemmas.{Among, among_of, of_among, any_is, is_any}
use Rattle.zone_core.proofs.BelowLemmas.{no_test, within_itself, within_within}
use Rattle.zone_answers.specs.declared.query_type.QueryType.{QueryType}
use Rattle.zone_answers.specs.declared.query_type.QueryType.TheVariants.{Kept, Any, Other}
use Rattle.zone_answers.specs.Answers.{Name, asterisk, asks_alias, asked_at, answered_as, answer_in, Found, Outside, Delegated, Missing, Alias, Listed, Again, AnswerOf, answer_with}
use Rattle.zone_answers.specs.AnswerTests.{is_there, is_ds, wildcard_over, if_there, source_of, referral, followed_at, found_by, found_from, found_below, found_at, alias_in, by_alias, follow, answer_to}
use Rattle.zone_answers.specs.AnswerChanges.{query_types}
use Rattle.zone_answers.specs.ChangeTests.{up_to}
use Rattle.zone_answers.proofs.RenamedLemmas.{first_step}
use Rattle.zone_answers.proofs.CutLemmas.{within_or_is, one_more}
use Rattle.zone_answers.proofs.KnownLemmas.{flat_among}
use Rattle.zone_answers.proofs.LawLemmas.{row_in, among_flat}
use Rattle.answer_reach.specs.declared.reach_map.ReachMap.{ReachMap}
use Rattle.answer_reach.specs.declared.reached.ReachedNames.TheVariants.{At, Others}
use Rattle.answer_reach.specs.Reach.{is_type, matters, remains, may_change}
use Rattle.answer_reach.specs.ReachTests.{has_name, within_any, below_any, is_cut_off, is_long, target_list, targets, asked_in_turn, alias_by, alias_under, is_wildcard, is_wildcard_alias, has_alias, if_types, child_may_exist, records_may_change, own_may_change, wildcard_may_change, wildcards_may_change, may_exist, may_change_at, sources_under, may_change_under, wildcards_above, may_change_near, staying_from, IsMap, StaysUp, may_change_inside, reaches, reaches_by, reaches_under, reaches_in, rows_at, may_have_rows}
use Rattle.answer_reach.proofs.PossibleLemmas.{first, second, owner_asked}
use Rattle.answer_reach.proofs.NamedLemmas.{has_is, is_has, up_to_is, is_up_to}
use Rattle.answer_reach.proofs.ReachedLemmas.{alias_is}

-- ---- what is answered without an alias

none_for : (t : RecordType) (d : Data) → asks_alias (Kept t) ≡ false → type_of d ≡ t → target_list d ≡ []
none_for t (variants.Cname target) e is = (let f : asks_alias (Kept types.Cname) ≡ false = ap (λ (x : RecordType). asks_alias (Kept x)) is ∙ e in absurd cc)
none_for t d e is = refl

-- records as those of a name have no targets, where they have none
no_targets : (name : Name) (xs : List Record) → ((r : Record) → Among r xs → target_list r.rdata ≡ []) → targets (map (answered_as name) xs) ≡ []
no_targets name [] none = refl
no_targets name (x ∷ xs) none = ap (λ l. l ++ targets (map (answered_as name) xs)) (none x (inl refl)) ∙ no_targets name xs (λ r a. none r (inr a))

module _ (origin : Name) (rs : List Record) (name : Name) where
  listed_none : (asked : QueryType) (source : Name) → asks_alias asked ≡ false → targets (map (answered_as name) (asked_at rs source asked)) ≡ []
  listed_none (Kept t) source e = no_targets name (asked_at rs source (Kept t)) (λ r a. none_for t r.rdata e (owner_asked rs source t r a).2)
  listed_none Any source e = absurd cc
  listed_none Other source e = refl

  -- what is found for a name names no target but by an alias that is followed
  found_none : (asked : QueryType) → asks_alias asked ≡ false → targets (answer_in name (found_at origin rs name asked)) ≡ []
  found_none asked e = by_inside (is_within name origin)
    where
      by_follow : (source : Name) (o : Option Record) → targets (answer_in name (found_by rs source asked o)) ≡ []
      by_follow source None = listed_none asked source e
      by_follow source (Some r) = refl

      by_source : (o : Option Name) → targets (answer_in name (found_from rs asked o)) ≡ []
      by_source None = refl
      by_source (Some source) = by_follow source (followed_at rs source asked)

      by_cut : (o : Option Name) → targets (answer_in name (found_below rs name asked o)) ≡ []
      by_cut None = by_source (source_of rs name)
      by_cut (Some cut) = refl

      by_inside : (b : Bool) → targets (answer_in name (cond b (found_below rs name asked (referral origin rs name asked)) Outside)) ≡ []
      by_inside true = by_cut (referral origin rs name asked)
      by_inside false = refl

  -- without an alias, only the name itself is asked for
  targets_none : (asked : QueryType) → asks_alias asked ≡ false → alias_in (found_at origin rs name asked) ≡ None → targets (answer_to origin rs name asked).answer ≡ []
  targets_none asked e none =
      let more : 2 + length rs ≡ suc (1 + length rs) = omega arith in
      let found = found_at origin rs name asked in
      let whole : answer_to origin rs name asked ≡ answer_with origin rs [] name found =
      ap (λ (n : ℕ). follow origin rs asked n [] name) more ∙ first_step origin rs asked (1 + length rs) name
      ∙ ap (λ (o : Option Record). by_alias origin rs [] name (follow origin rs asked (1 + length rs)) found o) none in
      ap (λ (a : AnswerOf). targets a.answer) whole ∙ found_none asked e

  itself_only : (asked : QueryType) → (asks_alias asked ≡ false → alias_in (found_at origin rs name asked) ≡ None) → (p : Name → Bool) → list_any p (asked_in_turn name asked (answer_to origin rs name asked)) ≡ true → p name ≡ true
  itself_only asked none p e = by_asks (asks_alias asked) refl e
    where
      or_none : (b : Bool) → (b || false) ≡ true → b ≡ true
      or_none true f = refl
      or_none false f = f

      by_asks : (b : Bool) → asks_alias asked ≡ b → list_any p (name ∷ cond b [] (targets (answer_to origin rs name asked).answer)) ≡ true → p name ≡ true
      by_asks true a f = or_none (p name) f
      by_asks false a f = or_none (p name) (sym (ap (λ (l : List Name). p name || list_any p l) (targets_none asked a (none a))) ∙ f)

-- ---- aliases that are found

module _ (origin : Name) (rs : List Record) (fits : (r : Record) → Contains rs r → wire_len r.owner ≤ 255) (asked : QueryType) where
  some_first : (xs : List Record) (r : Record) → first_of xs ≡ Some r → not (length xs == 0) ≡ true
  some_first [] r e = absurd cc
  some_first (x ∷ xs) r e = ap not (ne_eqb (length (x ∷ xs)) 0 (λ f. absurd (omega (arith, f))))

  -- an alias that is found is at the name, or answers for those below
  found_has : (name : Name) (r : Record) → found_at origin rs name asked ≡ Alias r → has_alias rs name ≡ true
  found_has name r e = by_inside (is_within name origin) e
    where
      own : (o : Option Record) → followed_at rs name asked ≡ o → found_by rs name asked o ≡ Alias r → has_alias rs name ≡ true
      own None is f = absurd cc
      own (Some s) is f = first (not (length (asked_at rs name (Kept types.Cname)) == 0)) _ (by_asks (asks_alias asked) is)
        where
          by_asks : (b : Bool) → cond b None (first_of (asked_at rs name (Kept types.Cname))) ≡ Some s → not (length (asked_at rs name (Kept types.Cname)) == 0) ≡ true
          by_asks true g = absurd cc
          by_asks false g = some_first (asked_at rs name (Kept types.Cname)) s g

      some_alias : (n : Name) → n ≡ name → alias_under rs n ≡ Some r → has_alias rs name ≡ true
      some_alias n same f = second (not (length (asked_at rs name (Kept types.Cname)) == 0)) _ (ap (λ (x : Name). is_some (alias_under rs x)) (sym same) ∙ ap (λ (o : Option Record). is_some o) f)

      over : (n : Name) → n ≡ name → is_there rs n ≡ false → found_from rs asked (if_there rs (wildcard_over rs n)) ≡ Alias r → has_alias rs name ≡ true
      over [] same gone f = absurd cc
      over (label ∷ labels) same gone f =
          some_alias (label ∷ labels) same (ap (λ b. cond b (alias_by rs (label ∷ labels)) (alias_under rs labels)) gone ∙ alias_is rs asked fits labels r f)

      by_there : (b : Bool) → is_there rs name ≡ b → found_from rs asked (cond b (Some name) (if_there rs (wildcard_over rs name))) ≡ Alias r → has_alias rs name ≡ true
      by_there true t f = own (followed_at rs name asked) refl f
      by_there false t f = over name refl t f

      by_cut : (o : Option Name) → found_below rs name asked o ≡ Alias r → has_alias rs name ≡ true
      by_cut None f = by_there (is_there rs name) refl f
      by_cut (Some cut) f = absurd cc

      by_inside : (b : Bool) → cond b (found_below rs name asked (referral origin rs name asked)) Outside ≡ Alias r → has_alias rs name ≡ true
      by_inside true f = by_cut (referral origin rs name asked) f
      by_inside false f = absurd cc

  not_found : (name : Name) → has_alias rs name ≡ false → alias_in (found_at origin rs name asked) ≡ None
  not_found name none = by_found (found_at origin rs name asked) refl
    where
      by_found : (f : Found) → found_at origin rs name asked ≡ f → alias_in f ≡ None
      by_found (Alias r) e = absurd (no_test (has_alias rs name) (found_has name r e) none)
      by_found Outside e = refl
      by_found (Delegated cut) e = refl
      by_found Missing e = refl
      by_found (Listed l) e = refl
      by_found Again e = refl

-- ---- aliases at wildcards

-- only an alias at a wildcard answers for names below
wildcard_is : (rs : List Record) (above : Name) (r : Record) → alias_by rs above ≡ Some r → list_any is_wildcard_alias rs ≡ true
wildcard_is rs above r e = by_long (is_long above) e
  where
    first_among : (xs : List Record) → first_of xs ≡ Some r → Among r xs
    first_among [] f = absurd cc
    first_among (x ∷ xs) f = let same : x ≡ r = cc in inl (sym same)

    by_long : (b : Bool) → cond b None (first_of (asked_at rs (asterisk ∷ above) (Kept types.Cname))) ≡ Some r → list_any is_wildcard_alias rs ≡ true
    by_long true f = absurd cc
    by_long false f =
        let own = owner_asked rs (asterisk ∷ above) types.Cname r (first_among (asked_at rs (asterisk ∷ above) (Kept types.Cname)) f) in
        is_any is_wildcard_alias rs r own.0
        (both_true (is_wildcard r.owner) _ (ap (λ (n : Name). is_wildcard n) own.1) (ap (λ (t : RecordType). is_type t types.Cname) own.2))

wildcard_under_is : (rs : List Record) (above : Name) (r : Record) → alias_under rs above ≡ Some r → list_any is_wildcard_alias rs ≡ true
wildcard_under_is rs [] r e = by_test (is_there rs []) e
  where
    by_test : (b : Bool) → cond b (alias_by rs []) None ≡ Some r → list_any is_wildcard_alias rs ≡ true
    by_test true f = wildcard_is rs [] r f
    by_test false f = absurd cc
wildcard_under_is rs (label ∷ labels) r e = by_test (is_there rs (label ∷ labels)) e (wildcard_under_is rs labels r)
  where
    by_test : (b : Bool) → cond b (alias_by rs (label ∷ labels)) (alias_under rs labels) ≡ Some r → (alias_under rs labels ≡ Some r → list_any is_wildcard_alias rs ≡ true) → list_any is_wildcard_alias rs ≡ true
    by_test true f higher = wildcard_is rs (label ∷ labels) r f
    by_test false f higher = higher f

pub no_alias_there : (rs : List Record) (name : Name) → list_any is_wildcard_alias rs ≡ false → (length (asked_at rs name (Kept types.Cname)) == 0) ≡ true → false ≡ has_alias rs name
no_alias_there rs name none bare = by_alias_under (alias_under rs name) refl
  where
    by_alias_under : (o : Option Record) → alias_under rs name ≡ o → false ≡ has_alias rs name
    by_alias_under None e = sym (ap (λ (b : Bool). not b || is_some (alias_under rs name)) bare ∙ ap (λ (o : Option Record). is_some o) e)
    by_alias_under (Some r) e = absurd (no_test (list_any is_wildcard_alias rs) (wildcard_under_is rs name r e) none)

-- ---- what may change for some question

module _ (rules : List Rule) (caller : List ℕ) (origin : Name) (rs : List Record) (m : ReachMap) (asked : QueryType) where
  records_more : (n : Name) → records_may_change rules caller origin rs m n asked ≡ true → records_may_change rules caller origin rs m n Any ≡ true
  records_more n e =
      (elim (or_cases (list_any (λ t. matters asked t && may_change rules caller origin rs n t) kept_types) (m.serial && (same_name n origin && matters asked types.Soa)) e) [
        | inl some ↦
            (let found = any_is (λ t. matters asked t && may_change rules caller origin rs n t) kept_types some in
            first (list_any (λ t. matters Any t && may_change rules caller origin rs n t) kept_types) _
            (is_any (λ t. matters Any t && may_change rules caller origin rs n t) kept_types found.0 found.1 (and_parts (matters asked found.0) (may_change rules caller origin rs n found.0) found.2).1))
        | inr serial ↦
            (let parts = and_parts m.serial (same_name n origin && matters asked types.Soa) serial in
            let home = (and_parts (same_name n origin) (matters asked types.Soa) parts.1).0 in
            second (list_any (λ t. matters Any t && may_change rules caller origin rs n t) kept_types) _ (both_true m.serial _ parts.0 (both_true (same_name n origin) true home refl)))
      ])

  wildcard_more : (above : Name) (nearer : Bool) → wildcard_may_change rules caller origin rs m above nearer asked ≡ true → wildcard_may_change rules caller origin rs m above nearer Any ≡ true
  wildcard_more above nearer e = by_long (is_long above) e
    where
      child : Name
      child = asterisk ∷ above

      changes : QueryType → Bool
      changes a = child_may_exist rules caller origin rs m above child && (not (has_name m.staying.items child) || (nearer || records_may_change rules caller origin rs m child a))

      short : changes asked ≡ true → changes Any ≡ true
      short f =
          let parts = and_parts (child_may_exist rules caller origin rs m above child) (not (has_name m.staying.items child) || (nearer || records_may_change rules caller origin rs m child asked)) f in
          both_true (child_may_exist rules caller origin rs m above child) _ parts.0 (elim (or_cases (not (has_name m.staying.items child)) (nearer || records_may_change rules caller origin rs m child asked) parts.1) [
            | inl gone ↦ first (not (has_name m.staying.items child)) _ gone
            | inr other ↦ second (not (has_name m.staying.items child)) _ (elim (or_cases nearer (records_may_change rules caller origin rs m child asked) other) [
              | inl near ↦ first nearer _ near
              | inr records ↦ second nearer _ (records_more child records)
            ])
          ])

      by_long : (b : Bool) → cond b true (changes asked) ≡ true → cond b true (changes Any) ≡ true
      by_long true f = refl
      by_long false f = short f

  wildcards_more : (n : Name) → wildcards_may_change rules caller origin rs m n asked ≡ true → wildcards_may_change rules caller origin rs m n Any ≡ true
  wildcards_more [] e = absurd cc
  wildcards_more (label ∷ labels) e =
      let gone = not (has_name m.staying.items (label ∷ labels)) in
      let near = may_exist rules caller origin rs m (label ∷ labels) in
      (elim (or_cases (gone && wildcard_may_change rules caller origin rs m labels near asked) (wildcards_may_change rules caller origin rs m labels asked) e) [
        | inl here ↦
            (let parts = and_parts gone (wildcard_may_change rules caller origin rs m labels near asked) here in
            first (gone && wildcard_may_change rules caller origin rs m labels near Any) _ (both_true gone _ parts.0 (wildcard_more labels near parts.1)))
        | inr above ↦ second (gone && wildcard_may_change rules caller origin rs m labels near Any) _ (wildcards_more labels above)
      ])

  near_soa : (n : Name) → m.soa ≡ true → may_change_near rules caller origin rs m n ≡ true
  near_soa n e = first m.soa _ e

  near_opener : (n : Name) → within_any m.openers.items n ≡ true → may_change_near rules caller origin rs m n ≡ true
  near_opener n e = second m.soa _ (first (within_any m.openers.items n) _ e)

  -- one of the tests that come after those of cuts
  near_rest : (n : Name) → (has_name m.under.items n || (not (has_name m.staying.items n) || (records_may_change rules caller origin rs m n Any || (wildcard_may_change rules caller origin rs m n false Any || wildcards_above rules caller origin rs m origin)))) ≡ true
      → may_change_near rules caller origin rs m n ≡ true
  near_rest n e = second m.soa _ (second (within_any m.openers.items n) _ e)

  near_under : (n : Name) → has_name m.under.items n ≡ true → may_change_near rules caller origin rs m n ≡ true
  near_under n e = near_rest n (first (has_name m.under.items n) _ e)

  near_gone : (n : Name) → not (has_name m.staying.items n) ≡ true → may_change_near rules caller origin rs m n ≡ true
  near_gone n e = near_rest n (second (has_name m.under.items n) _ (first (not (has_name m.staying.items n)) _ e))

  near_records : (n : Name) → records_may_change rules caller origin rs m n asked ≡ true → may_change_near rules caller origin rs m n ≡ true
  near_records n e =
      near_rest n (second (has_name m.under.items n) _ (second (not (has_name m.staying.items n)) _ (first (records_may_change rules caller origin rs m n Any) _ (records_more n e))))

  near_wildcard : (n : Name) → (wildcard_may_change rules caller origin rs m n false Any || wildcards_above rules caller origin rs m origin) ≡ true → may_change_near rules caller origin rs m n ≡ true
  near_wildcard n e =
      near_rest n (second (has_name m.under.items n) _ (second (not (has_name m.staying.items n)) _ (second (records_may_change rules caller origin rs m n Any) _ e)))

  near_own : (n : Name) → own_may_change rules caller origin rs m n asked ≡ true → may_change_near rules caller origin rs m n ≡ true
  near_own n e = (elim (or_cases (not (has_name m.staying.items n)) (records_may_change rules caller origin rs m n asked)
      (and_parts (may_exist rules caller origin rs m n) (not (has_name m.staying.items n) || records_may_change rules caller origin rs m n asked) e).1) [
        | inl gone ↦ near_gone n gone
        | inr records ↦ near_records n records
      ])

  module _ (stays : StaysUp rules caller origin rs m) where
    -- from a name that stays up to the origin, no wildcard beside may answer
    climb : (n : Name) → has_name m.staying.items n ≡ true → wildcards_may_change rules caller origin rs m n asked ≡ true → wildcards_above rules caller origin rs m origin ≡ true
    climb [] here e = absurd cc
    climb (label ∷ labels) here e =
        let gone = not (has_name m.staying.items (label ∷ labels)) in
        let beside = wildcard_may_change rules caller origin rs m labels (may_exist rules caller origin rs m (label ∷ labels)) asked in
        (elim (or_cases (gone && beside) (wildcards_may_change rules caller origin rs m labels asked) e) [
          | inl now' ↦ absurd (no_test (has_name m.staying.items (label ∷ labels)) here (opened (has_name m.staying.items (label ∷ labels)) (and_parts gone beside now').0))
          | inr above ↦ (elim (within_or_is label labels origin ((is_within-Decides (label ∷ labels) origin).0 (stays.inside (label ∷ labels) here))) [
            | inl home ↦ subst (λ (o : Name). wildcards_above rules caller origin rs m o ≡ true) (sym home) (wildcards_more labels above)
            | inr up ↦ climb labels (stays.up label labels here ((is_within-Decides labels origin).1 up)) above
          ])
        ])
      where
        opened : (b : Bool) → not b ≡ true → b ≡ false
        opened true f = absurd cc
        opened false f = refl

    near_wildcards : (n : Name) → wildcards_may_change rules caller origin rs m n asked ≡ true → may_change_near rules caller origin rs m n ≡ true
    near_wildcards n e = by_test (has_name m.staying.items n) refl
      where
        by_test : (b : Bool) → has_name m.staying.items n ≡ b → may_change_near rules caller origin rs m n ≡ true
        by_test true t = near_wildcard n (second (wildcard_may_change rules caller origin rs m n false Any) _ (climb n t e))
        by_test false t = near_gone n (ap not t)

    near_sources : (n : Name) → sources_under rules caller origin rs m n asked ≡ true → may_change_near rules caller origin rs m n ≡ true
    near_sources n e = (elim (or_cases (has_name m.under.items n) (wildcards_may_change rules caller origin rs m n asked || wildcard_may_change rules caller origin rs m n false asked) e) [
      | inl under ↦ near_under n under
      | inr other ↦ (elim (or_cases (wildcards_may_change rules caller origin rs m n asked) (wildcard_may_change rules caller origin rs m n false asked) other) [
        | inl above ↦ near_wildcards n above
        | inr here ↦ near_wildcard n (first (wildcard_may_change rules caller origin rs m n false Any) _ (wildcard_more n false here))
      ])
    ])

  below_within : (names : List Name) (n : Name) → below_any names n ≡ true → within_any names n ≡ true
  below_within names [] e = absurd cc
  below_within names (label ∷ labels) e = second (has_name names (label ∷ labels)) _ e

  cut_within : (names : List Name) (n : Name) → is_cut_off names n asked ≡ true → within_any names n ≡ true
  cut_within names n e = by_ds (is_ds asked) e
    where
      by_ds : (b : Bool) → cond b (below_any names n) (within_any names n) ≡ true → within_any names n ≡ true
      by_ds true f = below_within names n f
      by_ds false f = f

  at_near : StaysUp rules caller origin rs m → (n : Name) → may_change_at rules caller origin rs m n asked ≡ true → may_change_near rules caller origin rs m n ≡ true
  at_near stays n e =
      let own = own_may_change rules caller origin rs m n asked in
      let wild = wildcards_may_change rules caller origin rs m n asked in
      let kept = not (is_cut_off m.cuts.items n asked) in
      (elim (or_cases m.soa (is_cut_off m.openers.items n asked || (kept && (own || wild))) e) [
        | inl soa ↦ near_soa n soa
        | inr other ↦ (elim (or_cases (is_cut_off m.openers.items n asked) (kept && (own || wild)) other) [
          | inl opening ↦ near_opener n (cut_within m.openers.items n opening)
          | inr rest ↦ (elim (or_cases own wild (and_parts kept (own || wild) rest).1) [
            | inl mine ↦ near_own n mine
            | inr others ↦ near_wildcards stays n others
          ])
        ])
      ])

  under_near : StaysUp rules caller origin rs m → (n : Name) → may_change_under rules caller origin rs m n asked ≡ true → may_change_near rules caller origin rs m n ≡ true
  under_near stays n e =
      let kept = not (within_any m.cuts.items n) in
      let some = sources_under rules caller origin rs m n asked in
      (elim (or_cases m.soa (within_any m.openers.items n || (kept && some)) e) [
        | inl soa ↦ near_soa n soa
        | inr other ↦ (elim (or_cases (within_any m.openers.items n) (kept && some) other) [
          | inl opening ↦ near_opener n opening
          | inr rest ↦ near_sources stays n (and_parts kept some rest).1
        ])
      ])

-- names that stay are within the origin, with those above them
pub stays_up : (rules : List Rule) (caller : List ℕ) (origin : Name) (rs : List Record) (names : List Name) (m : ReachMap) → IsMap rules caller origin rs names m → StaysUp rules caller origin rs m
stays_up rules caller origin rs names m is = record { inside = λ n e. (is_within-Decides n origin).1 (from n e).3; up = above }
  where
    -- from a record that remains
    from : (n : Name) → has_name m.staying.items n ≡ true → (r : Record) × Among r rs × IsWithin r.owner n × IsWithin n origin × (remains rules caller origin r ≡ true)
    from n e = by_record found.0 found.1 (remains rules caller origin found.0) refl found.2
      where
        found : (r : Record) × Among r rs × Among n (staying_from rules caller origin rs r)
        found = among_flat (staying_from rules caller origin rs) rs n
            (among_of (flat_map (staying_from rules caller origin rs) rs) n ((is.staying.members n).0 (of_among m.staying.items n (has_is m.staying.items n e))))

        by_record : (r : Record) → Among r rs → (b : Bool) → remains rules caller origin r ≡ b → Among n (cond b (up_to origin r.owner) [])
            → (r : Record) × Among r rs × IsWithin r.owner n × IsWithin n origin × (remains rules caller origin r ≡ true)
        by_record r a true t here = let up = up_to_is origin r.owner n here in (r, a, up.0, up.1, t)
        by_record r a false t here = absurd here

    above : (label : List ℕ) (labels : Name) → has_name m.staying.items (label ∷ labels) ≡ true → is_within labels origin ≡ true → has_name m.staying.items labels ≡ true
    above label labels e inside =
        let one = from (label ∷ labels) e in
        let r = one.0 in
        let here : Among labels (up_to origin r.owner) =
        is_up_to origin r.owner labels (within_within r.owner (label ∷ labels) labels one.2 (one_more label labels labels (within_itself labels))) ((is_within-Decides labels origin).0 inside) in
        is_has m.staying.items labels (among_of m.staying.items labels ((is.staying.members labels).1 (of_among (flat_map (staying_from rules caller origin rs) rs) labels
        (flat_among (staying_from rules caller origin rs) rs r labels one.1 (subst (λ (l : List Name). Among labels l) (sym (ap (λ (b : Bool). cond b (up_to origin r.owner) []) one.4)) here)))))

-- ---- rows

passes_none : {X : Type 0} (p : X → Bool) (xs : List X) → ((x : X) → p x ≡ true → ⊥) → filter p xs ≡ []
passes_none p [] never = refl
passes_none p (x ∷ xs) never = ap (λ b. cond b (x ∷ filter p xs) (filter p xs)) (false_from_ne_true (p x) (never x)) ∙ passes_none p xs never

module _ (rules : List Rule) (caller : List ℕ) (origin : Name) (rs : List Record) (zone : AreOfZone origin rs) (m : ReachMap) (stays : StaysUp rules caller origin rs m) (name : Name) (none : may_have_rows rules caller origin rs m name ≡ false) where
  fits : (r : Record) → Contains rs r → wire_len r.owner ≤ 255
  fits r c = (zone.zone.kept (key_of r) r (row_in rs zone.order r (among_of rs r c))).1.owner.short

  not_near : may_change_near rules caller origin rs m name ≡ true → ⊥
  not_near e = no_test (may_have_rows rules caller origin rs m name) (first (may_change_near rules caller origin rs m name) _ e) none

  no_alias : has_alias rs name ≡ false
  no_alias = false_from_ne_true (has_alias rs name) (λ e. no_test (may_have_rows rules caller origin rs m name) (second (may_change_near rules caller origin rs m name) _ e) none)

  not_reached : (asked : QueryType) → reaches rules caller origin rs m name asked ≡ true → ⊥
  not_reached asked e =
      let inside = itself_only origin rs name asked (λ a. not_found origin rs fits asked name no_alias) (may_change_inside rules caller origin rs m asked) e in
      not_near (at_near rules caller origin rs m asked stays name (and_parts (is_within name origin) (may_change_at rules caller origin rs m name asked) inside).1)

  no_wildcard : alias_under rs name ≡ None
  no_wildcard = by_alias_under (alias_under rs name) refl
    where
      by_alias_under : (o : Option Record) → alias_under rs name ≡ o → o ≡ None
      by_alias_under None e = refl
      by_alias_under (Some r) e =
          absurd (no_test (has_alias rs name) (second (not (length (asked_at rs name (Kept types.Cname)) == 0)) _ (ap (λ (o : Option Record). is_some o) e)) no_alias)

  not_reached_under : (asked : QueryType) → reaches_under rules caller origin rs m name asked ≡ true → ⊥
  not_reached_under asked e =
      let kept = not (within_any m.cuts.items name) in
      let follows = not (asks_alias asked) in
      let by = reaches_by rules caller origin rs m asked (alias_under rs name) in
      (elim (or_cases (may_change_under rules caller origin rs m name asked) (kept && (follows && by)) e) [
        | inl may ↦ not_near (under_near rules caller origin rs m asked stays name may)
        | inr alias ↦
            (let is = (and_parts follows by (and_parts kept (follows && by) alias).1).1 in
            let gone : reaches_by rules caller origin rs m asked None ≡ true = sym (ap (reaches_by rules caller origin rs m asked) no_wildcard) ∙ is in
            absurd cc)
      ])

  -- the name has no rows
  pub no_rows : rows_at rules caller origin rs m name ≡ []
  no_rows =
      (λ i. if_types (At name) (passes_none (reaches_in rules caller origin rs m (At name)) query_types not_reached i)
      ++ if_types (Others name) (passes_none (reaches_in rules caller origin rs m (Others name)) query_types not_reached_under i))
