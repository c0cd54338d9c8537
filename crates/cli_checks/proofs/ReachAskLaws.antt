-- What the search for reached answers asks a policy about an update, and what the office asks.
use Rattle.std.proofs.Common.{◌≡◌, ◌∙◌, ◌↔◌, ap, sym, refl, subst, true≢false, Bool, true, false, ℕ, List, [], ◌∷◌, Option, Some, None, rules}
use Rattle.std.specs.Prelude.{if◌then◌else◌, unwrap_or}
use Rattle.std.specs.List.{AllByRecursion}
use Rattle.dns_data.specs.declared.record_type.RecordType.{RecordType}
use Rattle.dns_data.specs.declared.record_type.RecordType.TheVariants as types
use Rattle.dns_data.specs.Rdata.{type_of}
use Rattle.grant_policy.specs.declared.action.Action.{Action}
use Rattle.grant_policy.specs.declared.action.Action.TheVariants as action
use Rattle.grant_policy.specs.declared.rule.Rule.{Rule}
use Rattle.grant_policy.specs.Rules.{same_type}
use Rattle.grant_policy.specs.Decisions.{Verdict, granted, denied, decision, is_granted}
use Rattle.zone_core.specs.declared.update.Operation.{Operation}
use Rattle.zone_core.specs.declared.update.Operation.TheVariants.{Add, DeleteRrset, DeleteName, DeleteRecord}
use Rattle.zone_core.specs.declared.update.Prerequisite.{Prerequisite}
use Rattle.zone_core.specs.Updates.{tested_name, acted_name}
use Rattle.office_core.specs.Footprints as office
use Rattle.office_core.specs.Permissions as permission
use Rattle.office_core.proofs.FootprintLemmas.{operation_asks}
use Rattle.answer_reach.specs.Turns as reach
use Rattle.cli_checks.specs.ReachAsks.{PermittedUpdatesCount, CountedUpdatesArePermitted}

-- ---- what a change asks for

same_delegates : (origin name : List (List ℕ)) (t : RecordType) → office.delegates origin name t ≡ reach.delegates origin name t
same_delegates origin name types.Ns = refl
same_delegates origin name types.Ds = refl
same_delegates origin name _ = refl

one_or_other : (b c : Bool) (change : Action) → b ≡ c → (if b then Some action.Delegate else Some change) ≡ Some (if c then action.Delegate else change)
one_or_other true true change e = refl
one_or_other false false change e = refl
one_or_other true false change e = absurd (true≢false e)
one_or_other false true change e = absurd (true≢false (sym e))

-- the action for a change of a type, where the office asks for one
asked_action : (change : Action) (origin name : List (List ℕ)) (t : RecordType)
    → (if office.delegates origin name t then Some action.Delegate else Some change) ≡ Some (reach.action_for origin change name t)
asked_action change origin name t = one_or_other (office.delegates origin name t) (reach.delegates origin name t) change (same_delegates origin name t)

same_type_itself : (t : RecordType) → same_type t t ≡ true
same_type_itself types.A = refl
same_type_itself _ = refl

if_so : {X : Type 0} (b : Bool) (x : Option X) → b ≡ true → (if b then x else None) ≡ x
if_so true x e = refl
if_so false x e = absurd (true≢false (sym e))

add_asked : (origin : List (List ℕ)) (r : _) → office.operation_action origin (Add r) (type_of r.rdata) ≡ Some (reach.action_for origin action.Add r.owner (type_of r.rdata))
add_asked origin r = if_so (same_type (type_of r.rdata) (type_of r.rdata)) _ (same_type_itself (type_of r.rdata)) ∙ asked_action action.Add origin r.owner (type_of r.rdata)

set_asked : (origin name : List (List ℕ)) (t : RecordType) → office.operation_action origin (DeleteRrset name t) t ≡ Some (reach.action_for origin action.Delete name t)
set_asked origin name t = if_so (same_type t t) _ (same_type_itself t) ∙ asked_action action.Delete origin name t

record_asked : (origin name : List (List ℕ)) (rdata : _) → office.operation_action origin (DeleteRecord name rdata) (type_of rdata) ≡ Some (reach.action_for origin action.Delete name (type_of rdata))
record_asked origin name rdata = if_so (same_type (type_of rdata) (type_of rdata)) _ (same_type_itself (type_of rdata)) ∙ asked_action action.Delete origin name (type_of rdata)

-- ---- grants

is_grant : (v : Verdict) (id : List ℕ) → v ≡ granted id → is_granted v ≡ true
is_grant v id e = ap is_granted e

grant_of : (v : Verdict) → is_granted v ≡ true → (id : List ℕ) × (v ≡ granted id)
grant_of (granted id) e = (id, refl)
grant_of (denied by) e = absurd (true≢false (sym e))

-- ---- operations

module _ (rules : List Rule) (caller : List ℕ) (origin : List (List ℕ)) where
  -- the office permits an operation
  abbrev IsOfficial : Operation → Type 0
  IsOfficial op = (t : RecordType) (a : Action) → office.OperationAsks origin op t a → permission.IsGranted rules caller (acted_name op) t a

  granted_so : (op : Operation) (t : RecordType) (a : Action) → IsOfficial op → office.operation_action origin op t ≡ Some a
      → is_granted (decision (permission.question caller (acted_name op) t a) rules) ≡ true
  granted_so op t a official e =
      let grant = official t a ((operation_asks origin op t _ refl a).0 e) in is_grant _ grant.0 grant.1

  -- a type that is deleted with a name is asked for as if its set were deleted
  name_asks : (name : List (List ℕ)) (t : RecordType) → office.IsDeletedWith origin name t → office.OperationAsks origin (DeleteName name) t (reach.action_for origin action.Delete name t)
  name_asks name t deleted = (deleted, ((operation_asks origin (DeleteRrset name t) t _ refl _).0 (set_asked origin name t)).1)

  counted : (op : Operation) → IsOfficial op → reach.IsPermittedOperation rules caller origin op
  counted (Add r) official = granted_so (Add r) (type_of r.rdata) _ official (add_asked origin r)
  counted (DeleteRrset name t) official = granted_so (DeleteRrset name t) t _ official (set_asked origin name t)
  counted (DeleteName name) official = λ t deleted.
      let grant = official t _ (name_asks name t (record { not_soa = deleted.not_soa; not_at_origin = deleted.not_at_origin })) in is_grant _ grant.0 grant.1
  counted (DeleteRecord name rdata) official = granted_so (DeleteRecord name rdata) (type_of rdata) _ official (record_asked origin name rdata)

  same_action : (a b : Action) → Some a ≡ Some b → a ≡ b
  same_action a b e = ap (λ o. unwrap_or o a) e

  granted_for : (name : List (List ℕ)) (t : RecordType) (change a : Action) → a ≡ reach.action_for origin change name t → reach.may rules caller origin change name t ≡ true
      → permission.IsGranted rules caller name t a
  granted_for name t change a e may =
      subst (λ x. permission.IsGranted rules caller name t x) (sym e) (grant_of (decision (permission.question caller name t (reach.action_for origin change name t)) rules) may)

  official : (op : Operation) → reach.IsPermittedOperation rules caller origin op → IsOfficial op
  official (Add r) may t a asks =
      subst (λ x. permission.IsGranted rules caller r.owner x a) asks.0 (granted_for r.owner (type_of r.rdata) action.Add a
      (same_action a _ (sym ((operation_asks origin (Add r) (type_of r.rdata) _ refl a).1 (refl, subst (λ x. office.AsksChange action.Add origin r.owner x a) (sym asks.0) asks.1)) ∙ add_asked origin r)) may)
  official (DeleteRrset name deleted) may t a asks =
      subst (λ x. permission.IsGranted rules caller name x a) asks.0 (granted_for name deleted action.Delete a
      (same_action a _ (sym ((operation_asks origin (DeleteRrset name deleted) deleted _ refl a).1 (refl, subst (λ x. office.AsksChange action.Delete origin name x a) (sym asks.0) asks.1)) ∙ set_asked origin name deleted)) may)
  official (DeleteName name) may t a asks =
      granted_for name t action.Delete a
      (same_action a _ (sym ((operation_asks origin (DeleteRrset name t) t _ refl a).1 (refl, asks.1)) ∙ set_asked origin name t))
      (may t (record { not_soa = asks.0.not_soa; not_at_origin = asks.0.not_at_origin }))
  official (DeleteRecord name rdata) may t a asks =
      subst (λ x. permission.IsGranted rules caller name x a) asks.0 (granted_for name (type_of rdata) action.Delete a
      (same_action a _ (sym ((operation_asks origin (DeleteRecord name rdata) (type_of rdata) _ refl a).1 (refl, subst (λ x. office.AsksChange action.Delete origin name x a) (sym asks.0) asks.1)) ∙ record_asked origin name rdata)) may)

  all_counted : (ops : List Operation) → AllByRecursion IsOfficial ops → AllByRecursion (reach.IsPermittedOperation rules caller origin) ops
  all_counted [] all = tt
  all_counted (op ∷ ops) all = (counted op all.0, all_counted ops all.1)

  all_official : (ops : List Operation) → AllByRecursion (reach.IsPermittedOperation rules caller origin) ops → AllByRecursion IsOfficial ops
  all_official [] all = tt
  all_official (op ∷ ops) all = (official op all.0, all_official ops all.1)

  abbrev IsTestGranted : Prerequisite → Type 0
  IsTestGranted p = (t : RecordType) (a : Action) → office.PrerequisiteAsks p t a → permission.IsGranted rules caller (tested_name p) t a

pub permitted_updates_count : PermittedUpdatesCount
permitted_updates_count rules caller origin update is within permitted =
    record { is = is; within = within; operations = all_counted rules caller origin update.operations permitted.operations }

pub counted_updates_are_permitted : CountedUpdatesArePermitted
counted_updates_are_permitted rules caller origin update none permitted =
    record {
      prerequisites = subst (AllByRecursion (IsTestGranted rules caller origin)) (sym none) tt;
      operations = all_official rules caller origin update.operations permitted.operations;
    }
