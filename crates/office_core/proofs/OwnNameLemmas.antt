-- The names of a permitted update are its caller's own.
use Rattle.std.proofs.Common.{◌≡◌, ◌≢◌, ℕ, List, [], ◌∷◌, Bool, true, false, Some, None, refl, subst, inl, inr, if◌then◌else◌}
use Rattle.std.specs.List.{AllByRecursion}
use Rattle.dns_names.specs.Labels.{IsName}
use Rattle.dns_data.specs.declared.record_type.RecordType.{RecordType}
use Rattle.dns_data.specs.declared.record_type.RecordType.TheVariants as types
use Rattle.dns_data.specs.Rdata.{type_of}
use Rattle.grant_policy.specs.declared.action.Action.{Action}
use Rattle.grant_policy.specs.declared.action.Action.TheVariants as action
use Rattle.grant_policy.specs.declared.rule.Rule.{Rule}
use Rattle.grant_policy.specs.Isolated.{ChangesRecords}
use Rattle.grant_policy.proofs.WordLemmas.{same_type-Decides}
use Rattle.zone_core.specs.declared.update.Prerequisite.{Prerequisite}
use Rattle.zone_core.specs.declared.update.Prerequisite.TheVariants.{RrsetExists, RrsetEquals, RrsetAbsent, NameUsed, NameUnused}
use Rattle.zone_core.specs.declared.update.Operation.{Operation}
use Rattle.zone_core.specs.declared.update.Operation.TheVariants.{Add, DeleteRrset, DeleteName, DeleteRecord}
use Rattle.zone_core.specs.Updates.{UpdateOf, IsOperation, IsUpdate, tested_name, acted_name}
use Rattle.zone_core.specs.Visibility.{TestsSeen}
use Rattle.office_core.specs.Footprints.{PrerequisiteAsks, OperationAsks, changes_type, delegates, change_of, operation_action}
use Rattle.office_core.specs.Permissions.{IsGranted, IsPermitted}
use Rattle.office_core.specs.Isolation.{IsOwn, OthersMayNot}
use Rattle.office_core.proofs.FootprintLemmas.{operation_asked}

-- an operation acts at a name
acts_at_name : (op : Operation) → IsOperation op → IsName (acted_name op)
acts_at_name (Add r) is = is.owner
acts_at_name (DeleteRrset name t) is = is
acts_at_name (DeleteName name) is = is
acts_at_name (DeleteRecord name rdata) is = is.0

-- ---- what an operation asks for

change_is : (op : Operation) → ChangesRecords (change_of op)
change_is (Add r) = inl refl
change_is (DeleteRrset name t) = inr (inl refl)
change_is (DeleteName name) = inr (inl refl)
change_is (DeleteRecord name rdata) = inr (inl refl)

-- an operation asks for a change of some type
record SomeChange (origin : List (List ℕ)) (op : Operation) : Type 0 where
  record_type : RecordType
  asked : Action
  asks : OperationAsks origin op record_type asked
  change : ChangesRecords asked

change_at : (origin : List (List ℕ)) (op : Operation) (t : RecordType) → changes_type origin op t ≡ true → SomeChange origin op
change_at origin op t e = by_test (changes_type origin op t) (delegates origin (acted_name op) t) e refl
  where
    by_test : (b c : Bool) → b ≡ true → operation_action origin op t ≡ (if b then (if c then Some action.Delegate else Some (change_of op)) else None) → SomeChange origin op
    by_test true true e is = record { record_type = t; asked = action.Delegate; asks = (operation_asked origin op t action.Delegate).0 is; change = inr (inr refl) }
    by_test true false e is = record { record_type = t; asked = change_of op; asks = (operation_asked origin op t (change_of op)).0 is; change = change_is op }
    by_test false c e is = absurd cc

some_change : (origin : List (List ℕ)) (op : Operation) → SomeChange origin op
some_change origin (Add r) = change_at origin (Add r) (type_of r.rdata) ((same_type-Decides (type_of r.rdata) (type_of r.rdata)).1 refl)
some_change origin (DeleteRrset name t) = change_at origin (DeleteRrset name t) t ((same_type-Decides t t).1 refl)
some_change origin (DeleteName name) = change_at origin (DeleteName name) types.A refl
some_change origin (DeleteRecord name rdata) = change_at origin (DeleteRecord name rdata) (type_of rdata) ((same_type-Decides (type_of rdata) (type_of rdata)).1 refl)

-- ---- the caller's own names

module _ (rules : List Rule) (caller : List ℕ) where
  pub own_name : (name : List (List ℕ)) (t : RecordType) (a : Action) → IsGranted rules caller name t a → IsOwn rules caller name
  own_name name t a granted = record { record_type = t; action = a; id = granted.0; granting = granted.1 }

  -- what may be done with the records of a type, and not with the SOA at the origin
  pub not_soa : (origin name : List (List ℕ)) (t : RecordType) (a : Action) → ¬ IsGranted rules caller origin types.Soa a → IsGranted rules caller name t a → name ≡ origin → t ≢ types.Soa
  not_soa origin name t a hidden granted here type =
      hidden (subst (λ (x : RecordType). IsGranted rules caller origin x a) type (subst (λ (n : List (List ℕ)). IsGranted rules caller n t a) here granted))

  module _ (origin : List (List ℕ)) (unchecked : ¬ IsGranted rules caller origin types.Soa action.Check) where
    abbrev Permits : Prerequisite → Type 0
    Permits p = (t : RecordType) (a : Action) → PrerequisiteAsks p t a → IsGranted rules caller (tested_name p) t a

    checks : (name : List (List ℕ)) (t : RecordType) → IsGranted rules caller name t action.Check → IsOwn rules caller name × (name ≡ origin → t ≢ types.Soa)
    checks name t granted = (own_name name t action.Check granted, not_soa origin name t action.Check unchecked granted)

    test_seen : (p : Prerequisite) → Permits p → TestsSeen (IsOwn rules caller) origin p
    test_seen (RrsetExists name t) permits = checks name t (permits t action.Check (refl, refl))
    test_seen (RrsetEquals name rdata) permits = checks name (type_of rdata) (permits (type_of rdata) action.Check (refl, refl))
    test_seen (RrsetAbsent name t) permits = checks name t (permits t action.Check (refl, refl))
    test_seen (NameUsed name) permits = own_name name types.A action.Check (permits types.A action.Check (λ e. cc, refl))
    test_seen (NameUnused name) permits = own_name name types.A action.Check (permits types.A action.Check (λ e. cc, refl))

    all_seen : (ps : List Prerequisite) → AllByRecursion Permits ps → AllByRecursion (TestsSeen (IsOwn rules caller) origin) ps
    all_seen [] all = tt
    all_seen (p ∷ ps) all = (test_seen p all.0, all_seen ps all.1)

    -- a permitted update tests what its caller sees
    pub permitted_tests : (update : UpdateOf) → IsPermitted rules caller origin update → AllByRecursion (TestsSeen (IsOwn rules caller) origin) update.prerequisites
    permitted_tests update permitted = all_seen update.prerequisites permitted.prerequisites

  module _ (origin : List (List ℕ)) where
    abbrev Allows : Operation → Type 0
    Allows op = (t : RecordType) (a : Action) → OperationAsks origin op t a → IsGranted rules caller (acted_name op) t a

    all_own : (ops : List Operation) → AllByRecursion Allows ops → AllByRecursion (λ op. IsOwn rules caller (acted_name op)) ops
    all_own [] all = tt
    all_own (op ∷ ops) all =
        let some = some_change origin op in
        (own_name (acted_name op) some.record_type some.asked (all.0 some.record_type some.asked some.asks), all_own ops all.1)

    -- and acts at its own names
    pub permitted_acts : (update : UpdateOf) → IsPermitted rules caller origin update → AllByRecursion (λ op. IsOwn rules caller (acted_name op)) update.operations
    permitted_acts update permitted = all_own update.operations permitted.operations

    module _ (mine : List ℕ) (others : OthersMayNot rules mine) (other : caller ≢ mine) where
      all_away : (ops : List Operation) → AllByRecursion IsOperation ops → AllByRecursion Allows ops → AllByRecursion (λ op. ¬ IsOwn rules mine (acted_name op)) ops
      all_away [] are all = tt
      all_away (op ∷ ops) are all =
          let some = some_change origin op in (
            λ own. others caller (acted_name op) some.record_type some.asked other (acts_at_name op are.0) own some.change (all.0 some.record_type some.asked some.asks),
            all_away ops are.1 all.1,
          )

      -- and at no name of a caller whose names the policy keeps from it
      pub permitted_away : (update : UpdateOf) → IsUpdate update → IsPermitted rules caller origin update → AllByRecursion (λ op. ¬ IsOwn rules mine (acted_name op)) update.operations
      permitted_away update is permitted = all_away update.operations is.operations permitted.operations
