-- What is granted is granted within the names of rules that grant changes.
use Rattle.std.proofs.Common.{◌≡◌, ℕ, ◌-◌, ◌<◌, ◌≤◌, arith, length, get_or, Option, is_some, List, [], ◌∷◌, Bool, true, false, cond, not, ◌&&◌, ◌||◌, refl, sym, ap, subst, ◌∙◌, inl, inr}
use Rattle.std.specs.List.{list_any, flat_map}
use Rattle.std.specs.Ordering.{is_le}
use Rattle.std.specs.List.Sorted.{IsPartitionPoint}
use Rattle.std.proofs.lemmas.Bool.{and_parts, or_cases, false_from_ne_true}
use Rattle.std.proofs.lemmas.List.{get_or_default}
use Rattle.std.proofs.lemmas.List.Folds.{list_any-append}
use Rattle.dns_names.specs.Labels.{is_within}
use Rattle.dns_names.specs.Order.{same_name, canonical_cmp}
use Rattle.dns_data.specs.declared.record.Record.{Record}
use Rattle.dns_data.specs.declared.record_type.RecordType.{RecordType}
use Rattle.dns_data.specs.declared.record_type.RecordType.TheVariants as types
use Rattle.dns_data.specs.Types.{kept_types}
use Rattle.grant_policy.specs.declared.action.Action.{Action}
use Rattle.grant_policy.specs.declared.action.Action.TheVariants as action
use Rattle.grant_policy.specs.declared.effect.Effect.{Effect}
use Rattle.grant_policy.specs.declared.effect.Effect.TheVariants.{Grant, Deny}
use Rattle.grant_policy.specs.declared.rule.Rule.{Rule}
use Rattle.grant_policy.specs.declared.scope.Scope.{Scope}
use Rattle.grant_policy.specs.declared.scope.Scope.TheVariants as scopes
use Rattle.grant_policy.specs.Isolated.{question, ChangesRecords}
use Rattle.grant_policy.specs.Reach.{is_grant, grants_to}
use Rattle.grant_policy.specs.Rules.{Question, is_of, has, same_type, same_action, matches}
use Rattle.grant_policy.specs.Scopes.{covers}
use Rattle.grant_policy.specs.Decisions.{decision, decided, effect_by, is_granted}
use Rattle.zone_core.specs.Delegations.{AreNamesOf}
use Rattle.zone_core.specs.Outermost.{AreApart, AreOutermost}
use Rattle.zone_core.proofs.SetLemmas.{name_is}
use Rattle.zone_core.proofs.ZoneLemmas.{both_true}
use Rattle.zone_core.proofs.MetLemmas.{among_of, of_among, any_is, is_any}
use Rattle.zone_core.proofs.BelowLemmas.{no_test, is_within_itself}
use Rattle.zone_core.proofs.CoverLemmas.{found_any, none_over, some_over}
use Rattle.zone_answers.specs.declared.query_type.QueryType.{QueryType}
use Rattle.zone_answers.specs.Answers.{Name}
use Rattle.answer_reach.specs.Rights.{AreTops, grants_change, changed_within, may_grant}
use Rattle.answer_reach.specs.Turns.{delegates, action_for, may}
use Rattle.answer_reach.specs.Reach.{is_type, matters, are_kept_out, has_place, may_come, may_go, may_change}
use Rattle.answer_reach.specs.ReachTests.{covers_under, matches_under, decision_under, action_under, may_under, comes_at, comes_under, updates_at, updates_under}
use Rattle.answer_reach.proofs.PossibleLemmas.{first, second}

-- ---- rules that grant

by_effect : (effect : Effect) (id : List ℕ) → is_granted (effect_by effect id) ≡ true → is_grant effect ≡ true
by_effect Grant id e = refl
by_effect Deny id e = absurd cc

-- a rule that grants a change is one of those that do
change_granted : (caller : List ℕ) (a : Action) (rule : Rule) → ChangesRecords a → grants_to caller a rule ≡ true → grants_change caller rule ≡ true
change_granted caller a rule kind e = (elim kind [
  | inl add ↦ first (grants_to caller action.Add rule) _ (ap (λ (x : Action). grants_to caller x rule) (sym add) ∙ e)
  | inr other ↦ second (grants_to caller action.Add rule) _ (elim other [
    | inl delete ↦ first (grants_to caller action.Delete rule) _ (ap (λ (x : Action). grants_to caller x rule) (sym delete) ∙ e)
    | inr delegate ↦ second (grants_to caller action.Delete rule) _ (ap (λ (x : Action). grants_to caller x rule) (sym delegate) ∙ e)
  ])
])

covers_within : (scope : Scope) (at name : Name) → covers scope at name ≡ true → is_within name at ≡ true
covers_within scopes.Name at name e = ap (λ (n : Name). is_within n at) (name_is name at e) ∙ is_within_itself at
covers_within scopes.Subtree at name e = e
covers_within scopes.Below at name e = (and_parts (is_within name at) (not (same_name name at)) e).0

under_within : (scope : Scope) (at above : Name) → covers_under scope at above ≡ true → is_within above at ≡ true
under_within scopes.Name at above e = absurd cc
under_within scopes.Subtree at above e = e
under_within scopes.Below at above e = e

-- by one rule
module _ (asked : Question) (kind : ChangesRecords asked.action) where
  abbrev covered : List Name → Bool
  covered tops = list_any (λ top. is_within asked.name top) tops

  by_rule : (rule : Rule) → is_granted (decided rule) ≡ true → is_of rule.callers asked.caller ≡ true → has same_action rule.actions asked.action ≡ true → is_within asked.name rule.at ≡ true
      → covered (changed_within asked.caller rule) ≡ true
  by_rule rule granted caller does within =
      let grants : grants_to asked.caller asked.action rule ≡ true =
      both_true (is_grant rule.effect) _ (by_effect rule.effect rule.id granted) (both_true (is_of rule.callers asked.caller) (has same_action rule.actions asked.action) caller does) in
      subst (λ (b : Bool). covered (cond b (rule.at ∷ []) []) ≡ true) (sym (change_granted asked.caller asked.action rule kind grants)) (first (is_within asked.name rule.at) false within)

  with_rule : (rule : Rule) (rules : List Rule) → covered (changed_within asked.caller rule) ≡ true → may_grant (rule ∷ rules) asked.caller asked.name ≡ true
  with_rule rule rules e =
      list_any-append (λ top. is_within asked.name top) (changed_within asked.caller rule) (flat_map (changed_within asked.caller) rules) ∙ first (covered (changed_within asked.caller rule)) _ e

  past_rule : (rule : Rule) (rules : List Rule) → may_grant rules asked.caller asked.name ≡ true → may_grant (rule ∷ rules) asked.caller asked.name ≡ true
  past_rule rule rules e =
      list_any-append (λ top. is_within asked.name top) (changed_within asked.caller rule) (flat_map (changed_within asked.caller) rules) ∙ second (covered (changed_within asked.caller rule)) _ e

  pub granted_within : (rules : List Rule) → is_granted (decision asked rules) ≡ true → may_grant rules asked.caller asked.name ≡ true
  granted_within [] e = absurd cc
  granted_within (rule ∷ rules) e = by_test (matches asked rule) refl e (granted_within rules)
    where
      by_test : (b : Bool) → matches asked rule ≡ b → is_granted (cond b (decided rule) (decision asked rules)) ≡ true
          → (is_granted (decision asked rules) ≡ true → may_grant rules asked.caller asked.name ≡ true) → may_grant (rule ∷ rules) asked.caller asked.name ≡ true
      by_test true m f later =
          let parts = and_parts (is_of rule.callers asked.caller) (covers rule.scope rule.at asked.name && (has same_type rule.types asked.record_type && has same_action rule.actions asked.action)) m in
          let more = and_parts (covers rule.scope rule.at asked.name) (has same_type rule.types asked.record_type && has same_action rule.actions asked.action) parts.1 in
          let last = and_parts (has same_type rule.types asked.record_type) (has same_action rule.actions asked.action) more.1 in
          with_rule rule rules (by_rule rule f parts.0 last.1 (covers_within rule.scope rule.at asked.name more.0))
      by_test false m f later = past_rule rule rules (later f)

  pub granted_under : (rules : List Rule) → is_granted (decision_under asked rules) ≡ true → may_grant rules asked.caller asked.name ≡ true
  granted_under [] e = absurd cc
  granted_under (rule ∷ rules) e = by_test (matches_under asked rule) refl e (granted_under rules)
    where
      by_test : (b : Bool) → matches_under asked rule ≡ b → is_granted (cond b (decided rule) (decision_under asked rules)) ≡ true
          → (is_granted (decision_under asked rules) ≡ true → may_grant rules asked.caller asked.name ≡ true) → may_grant (rule ∷ rules) asked.caller asked.name ≡ true
      by_test true m f later =
          let parts = and_parts (is_of rule.callers asked.caller) (covers_under rule.scope rule.at asked.name && (has same_type rule.types asked.record_type && has same_action rule.actions asked.action)) m in
          let more = and_parts (covers_under rule.scope rule.at asked.name) (has same_type rule.types asked.record_type && has same_action rule.actions asked.action) parts.1 in
          let last = and_parts (has same_type rule.types asked.record_type) (has same_action rule.actions asked.action) more.1 in
          with_rule rule rules (by_rule rule f parts.0 last.1 (under_within rule.scope rule.at asked.name more.0))
      by_test false m f later = past_rule rule rules (later f)

-- ---- changes

or_delegate : (b : Bool) (change : Action) → ChangesRecords change → ChangesRecords (cond b action.Delegate change)
or_delegate true change kind = inr (inr refl)
or_delegate false change kind = kind

under_changes : (change : Action) (t : RecordType) → ChangesRecords change → ChangesRecords (action_under change t)
under_changes change types.Ns kind = inr (inr refl)
under_changes change types.Ds kind = inr (inr refl)
under_changes change t kind = kind

none_any : {X : Type 0} (p : X → Bool) (xs : List X) → ((x : X) → p x ≡ true → ⊥) → list_any p xs ≡ false
none_any p xs never = false_from_ne_true (list_any p xs) (λ e. let found = any_is p xs e in never found.0 found.2)

add_is : ChangesRecords action.Add
add_is = inl refl

delete_is : ChangesRecords action.Delete
delete_is = inr (inl refl)

module _ (rules : List Rule) (caller : List ℕ) (name : Name) (none : may_grant rules caller name ≡ false) where
  never : may_grant rules caller name ≡ true → ⊥
  never e = no_test (may_grant rules caller name) e none

  pub not_may : (origin : Name) (change : Action) (t : RecordType) → ChangesRecords change → may rules caller origin change name t ≡ false
  not_may origin change t kind =
      false_from_ne_true (may rules caller origin change name t) (λ e.
      never (granted_within (question caller name t (action_for origin change name t)) (or_delegate (delegates origin name t) change kind) rules e))

  pub not_may_under : (change : Action) (t : RecordType) → ChangesRecords change → may_under rules caller change name t ≡ false
  not_may_under change t kind =
      false_from_ne_true (may_under rules caller change name t) (λ e.
      never (granted_under (question caller name t (action_under change t)) (under_changes change t kind) rules e))

  module _ (origin : Name) (rs : List Record) where
    not_come : (t : RecordType) → may_come rules caller origin rs name t ≡ true → ⊥
    not_come t e =
        let inner = (and_parts (is_within name origin) (may rules caller origin action.Add name t && (has_place origin name t && not (are_kept_out rules caller origin rs name t))) e).1 in
        no_test (may rules caller origin action.Add name t) (and_parts (may rules caller origin action.Add name t) _ inner).0 (not_may origin action.Add t add_is)

    pub not_change : (t : RecordType) → may_change rules caller origin rs name t ≡ true → ⊥
    not_change t e = (elim (or_cases (may_come rules caller origin rs name t) (may_go rules caller origin rs name t) e) [
      | inl come ↦ not_come t come
      | inr go ↦ no_test (may rules caller origin action.Delete name t) (and_parts (may rules caller origin action.Delete name t) _ go).0 (not_may origin action.Delete t delete_is)
    ])

    pub none_comes : comes_at rules caller origin rs name ≡ false
    none_comes = none_any (may_come rules caller origin rs name) kept_types not_come

    pub none_comes_under : comes_under rules caller origin rs name ≡ false
    none_comes_under = none_any (λ t. not (is_type t types.Soa) && may_under rules caller action.Add name t) kept_types (λ t e.
        no_test (may_under rules caller action.Add name t) (and_parts (not (is_type t types.Soa)) (may_under rules caller action.Add name t) e).1 (not_may_under action.Add t add_is))

    pub none_updates : updates_at rules caller origin rs name ≡ false
    none_updates = none_any (λ t. may rules caller origin action.Add name t || may rules caller origin action.Delete name t) kept_types (λ t e.
        (elim (or_cases (may rules caller origin action.Add name t) (may rules caller origin action.Delete name t) e) [
          | inl add ↦ no_test (may rules caller origin action.Add name t) add (not_may origin action.Add t add_is)
          | inr delete ↦ no_test (may rules caller origin action.Delete name t) delete (not_may origin action.Delete t delete_is)
        ]))

    pub none_updates_under : updates_under rules caller origin rs name ≡ false
    none_updates_under = none_any (λ t. may_under rules caller action.Add name t || may_under rules caller action.Delete name t) kept_types (λ t e.
        (elim (or_cases (may_under rules caller action.Add name t) (may_under rules caller action.Delete name t) e) [
          | inl add ↦ no_test (may_under rules caller action.Add name t) add (not_may_under action.Add t add_is)
          | inr delete ↦ no_test (may_under rules caller action.Delete name t) delete (not_may_under action.Delete t delete_is)
        ]))

    pub none_changes : (asked : QueryType) → list_any (λ t. matters asked t && may_change rules caller origin rs name t) kept_types ≡ false
    none_changes asked = none_any (λ t. matters asked t && may_change rules caller origin rs name t) kept_types (λ t e.
        not_change t (and_parts (matters asked t) (may_change rules caller origin rs name t) e).1)

-- ---- the outermost names

-- of names apart, the last that is not after a name tells whether it is within one
pub last_tells : (tops : List Name) (apart : AreApart tops) (name : Name) (n : ℕ) (short : n ≤ length tops)
    (point : IsPartitionPoint (λ (top : Name). is_le (canonical_cmp top name) ≡ true) (λ (top : Name). is_le (canonical_cmp top name) ≡ false) tops n) (last : Name) → 0 < n → last ≡ get_or tops (n - 1) last
    → is_within name last ≡ list_any (λ top. is_within name top) tops
last_tells tops apart name n short point last some is = by_test (is_within name last) refl
  where
    by_test : (b : Bool) → is_within name last ≡ b → is_within name last ≡ list_any (λ top. is_within name top) tops
    by_test true e = e ∙ sym (ap (λ (o : Option Name). is_some o) (some_over tops apart name n short point last some is e)) ∙ found_any (λ top. is_within name top) tops
    by_test false e =
        e ∙ sym (ap (λ (o : Option Name). is_some o) (none_over tops apart name n short point (λ more d. ap (is_within name) (get_or_default tops (n - 1) d last (omega (arith, short, some)) ∙ sym is) ∙ e)))
        ∙ found_any (λ top. is_within name top) tops

pub none_before : (tops : List Name) (apart : AreApart tops) (name : Name) (n : ℕ) (short : n ≤ length tops)
    (point : IsPartitionPoint (λ (top : Name). is_le (canonical_cmp top name) ≡ true) (λ (top : Name). is_le (canonical_cmp top name) ≡ false) tops n) → n ≡ 0
    → false ≡ list_any (λ top. is_within name top) tops
none_before tops apart name n short point none =
    sym (ap (λ (o : Option Name). is_some o) (none_over tops apart name n short point (λ some d. absurd (omega (arith, none, some))))) ∙ found_any (λ top. is_within name top) tops

pub tops_are : (rules : List Rule) (caller : List ℕ) (all tops : List Name) → AreNamesOf all (flat_map (changed_within caller) rules) → AreOutermost all tops → AreTops rules caller tops
tops_are rules caller all tops names are = record { covers = λ name. are.covers name ∙ same_any name; apart = are.apart }
  where
    same_bool : (a b : Bool) → (a ≡ true → b ≡ true) → (b ≡ true → a ≡ true) → a ≡ b
    same_bool true b there back = sym (there refl)
    same_bool false true there back = back refl
    same_bool false false there back = refl

    same_any : (name : Name) → list_any (λ top. is_within name top) all ≡ may_grant rules caller name
    same_any name =
        let raw = flat_map (changed_within caller) rules in
        let p : Name → Bool = λ top. is_within name top in
        same_bool (list_any p all) (list_any p raw)
        (λ e. let found = any_is p all e in is_any p raw found.0 (among_of raw found.0 ((names.members found.0).0 (of_among all found.0 found.1))) found.2)
        (λ e. let found = any_is p raw e in is_any p all found.0 (among_of all found.0 ((names.members found.0).1 (of_among raw found.0 found.1))) found.2)
