-- A cut that stays, or may change, is where the zone may be cut.
use Rattle.std.proofs.Common.{◌≡◌, ℕ, List, [], ◌∷◌, length, Bool, true, false, cond, not, ◌||◌, ◌==◌, refl, sym, ap, ◌∙◌, inl, inr}
use Rattle.std.specs.Ordering.{is_lt}
use Rattle.std.specs.List.{list_any, filter, flat_map}
use Rattle.std.specs.List.Sorted.{IsSorted}
use Rattle.std.proofs.lemmas.List.Kept.{IsSortedBy-filter}
use Rattle.std.proofs.lemmas.List.Sorted.{ranks_by}
use Rattle.dns_names.specs.Order.{canonical_cmp, canonical_total}
use Rattle.std.proofs.lemmas.Bool.{and_parts, or_cases, true_from_ne_false, false_from_ne_true}
use Rattle.dns_names.specs.Labels.{IsWithin, is_within}
use Rattle.dns_names.proofs.NameLemmas.{is_within-Decides}
use Rattle.dns_data.specs.declared.record.Record.{Record}
use Rattle.dns_data.specs.declared.record_type.RecordType.TheVariants as types
use Rattle.grant_policy.specs.declared.rule.Rule.{Rule}
use Rattle.zone_core.specs.Delegations.{AreNamesOf, cut_owners, IsCutAt, is_below}
use Rattle.zone_core.proofs.MetLemmas.{Among, among_of, of_among, any_is, is_any}
use Rattle.zone_core.proofs.BelowLemmas.{no_test, within_within, below-Decides}
use Rattle.zone_core.proofs.ReportLemmas.{cut_is}
use Rattle.zone_answers.specs.declared.query_type.QueryType.TheVariants.{Kept}
use Rattle.zone_answers.specs.Answers.{Name, asked_at}
use Rattle.answer_reach.specs.Rights.{changed_within, may_grant}
use Rattle.answer_reach.specs.Reach.{may_change}
use Rattle.answer_reach.specs.ReachTests.{has_name, within_any, below_any, is_cut, stays_cut, server_may_change, cut_may_change, opens, may_be_cut, IsPlaces}
use Rattle.answer_reach.proofs.PossibleLemmas.{first, second, owner_asked}
use Rattle.answer_reach.proofs.NamedLemmas.{is_has, within_is, is_within_any}
use Rattle.answer_reach.proofs.ComputedLemmas.{both_ways, filter_passes, passes_filter, some_there}
use Rattle.answer_reach.proofs.RightsLemmas.{not_change}

-- what passes one test passes the other: the other may be made first
filter_twice : {X : Type 0} (p q : X → Bool) (xs : List X) → ((x : X) → q x ≡ true → p x ≡ true) → filter q (filter p xs) ≡ filter q xs
filter_twice p q [] both = refl
filter_twice {X} p q (x ∷ xs) both = by_tests (p x) (q x) refl refl (filter_twice p q xs both)
  where
    by_tests : (a b : Bool) → p x ≡ a → q x ≡ b → filter q (filter p xs) ≡ filter q xs → filter q (cond a (x ∷ filter p xs) (filter p xs)) ≡ cond b (x ∷ filter q xs) (filter q xs)
    by_tests true true e f rest = ap (λ c. cond c (x ∷ filter q (filter p xs)) (filter q (filter p xs))) f ∙ ap (λ l. x ∷ l) rest
    by_tests true false e f rest = ap (λ c. cond c (x ∷ filter q (filter p xs)) (filter q (filter p xs))) f ∙ rest
    by_tests false true e f rest = (let g : false ≡ true = sym e ∙ both x f in absurd cc)
    by_tests false false e f rest = rest

module _ (rules : List Rule) (caller : List ℕ) (origin : Name) (rs : List Record) (cuts : List Name) (owners : AreNamesOf cuts (cut_owners origin rs)) where
  -- the name of a cut
  cut_place : (name : Name) → IsCutAt origin rs name → may_be_cut rules caller origin rs cuts name ≡ true
  cut_place name is =
      first (has_name cuts name) _ (is_has cuts name (among_of cuts name ((owners.members name).1 ((cut_is origin name rs).1 is))))

  of_server : (name : Name) → is_below name origin ≡ true → (r : Record) → Among r (asked_at rs name (Kept types.Ns)) → IsCutAt origin rs name
  of_server name below r a =
      let own = owner_asked rs name types.Ns r a in
      ((below-Decides name origin).0 below, (r, of_among rs r own.0, own.1, own.2))

  stays_place : (name : Name) → stays_cut rules caller origin rs name ≡ true → may_be_cut rules caller origin rs cuts name ≡ true
  stays_place name e =
      let cut = and_parts (is_below name origin) (not (length (asked_at rs name (Kept types.Ns)) == 0)) (and_parts (is_cut rules caller origin rs name) (not (may_change rules caller origin rs name types.Ns)) e).0 in
      let some = some_there (asked_at rs name (Kept types.Ns)) cut.1 in
      cut_place name (of_server name cut.0 some.0 some.1)

  granted_place : (name : Name) → may_change rules caller origin rs name types.Ns ≡ true → may_be_cut rules caller origin rs cuts name ≡ true
  granted_place name e =
      second (has_name cuts name) _ (true_from_ne_false (may_grant rules caller name) (λ none. not_change rules caller name none origin rs types.Ns e))

  opens_place : (staying : List Name) (name : Name) → opens rules caller origin rs staying name ≡ true → may_be_cut rules caller origin rs cuts name ≡ true
  opens_place staying name e =
      let servers = list_any (λ r. server_may_change rules caller origin rs r.rdata) (asked_at rs name (Kept types.Ns)) in
      let change = may_change rules caller origin rs name types.Ns in
      let both = and_parts (is_below name origin) (change || servers) (and_parts (cut_may_change rules caller origin rs name) (not (below_any staying name)) e).0 in
      (elim (or_cases change servers both.1) [
        | inl ns ↦ granted_place name ns
        | inr address ↦ (let found = any_is (λ r. server_may_change rules caller origin rs r.rdata) (asked_at rs name (Kept types.Ns)) address in cut_place name (of_server name both.0 found.0 found.1))
      ])

module _ (rules : List Rule) (caller : List ℕ) (origin : Name) (rs : List Record) (names places : List Name) (is : IsPlaces rules caller origin rs names places) where
  pub stays_there : filter (stays_cut rules caller origin rs) places ≡ filter (stays_cut rules caller origin rs) names
  stays_there =
      ap (filter (stays_cut rules caller origin rs)) is.are
      ∙ filter_twice (may_be_cut rules caller origin rs is.cuts) (stays_cut rules caller origin rs) names (stays_place rules caller origin rs is.cuts is.owners)

  pub opens_there : (staying : List Name) → filter (opens rules caller origin rs staying) places ≡ filter (opens rules caller origin rs staying) names
  opens_there staying =
      ap (filter (opens rules caller origin rs staying)) is.are
      ∙ filter_twice (may_be_cut rules caller origin rs is.cuts) (opens rules caller origin rs staying) names (opens_place rules caller origin rs is.cuts is.owners staying)

-- ---- cuts over names where no rule can grant changes

-- below a name where a rule can grant changes it can, too
grants_below : (rules : List Rule) (caller : List ℕ) (name top : Name) → IsWithin name top → may_grant rules caller top ≡ true → may_grant rules caller name ≡ true
grants_below rules caller name top up e =
    let all = flat_map (changed_within caller) rules in
    let found = any_is (λ (t : Name). is_within top t) all e in
    is_any (λ (t : Name). is_within name t) all found.0 found.1
    ((is_within-Decides name found.0).1 (within_within name top found.0 up ((is_within-Decides top found.0).0 found.2)))

pub glue_tells : (rules : List Rule) (caller : List ℕ) (openers : List Name) (name : Name) → may_grant rules caller name ≡ false
    → within_any (filter (λ n. not (may_grant rules caller n)) openers) name ≡ within_any openers name
glue_tells rules caller openers name none = both_ways (within_any (filter free openers) name) (within_any openers name)
    (λ e. let found = is_within_any (filter free openers) name e in within_is openers name found.0 (filter_passes free openers found.0 found.1).0 found.2)
    (λ e. let found = is_within_any openers name e in
    within_is (filter free openers) name found.0
    (passes_filter free openers found.0 found.1 (ap not (false_from_ne_true (may_grant rules caller found.0) (λ t. no_test (may_grant rules caller name) (grants_below rules caller name found.0 found.2 t) none)))) found.2)
  where
    free : Name → Bool
    free n = not (may_grant rules caller n)

pub glue_sorted : (p : Name → Bool) (names : List Name) → IsSorted canonical_cmp names → IsSorted canonical_cmp (filter p names)
glue_sorted p names sorted = IsSortedBy-filter (λ a b. is_lt (canonical_cmp a b)) (ranks_by canonical_total (λ (n : Name). n)) p names sorted
