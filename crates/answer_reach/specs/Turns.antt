-- Updates that a caller makes one after the other, each as a policy lets it, nobody else acting.
use Rattle.std.specs.Prelude.{◌≡◌, ◌≢◌, ℕ, List, [], ◌∷◌, Bool, true, false, not, if◌then◌else◌}
use Rattle.std.specs.List.{AllByRecursion}
use Rattle.dns_names.specs.Order.{same_name}
use Rattle.dns_data.specs.declared.record_type.RecordType.{RecordType}
use Rattle.dns_data.specs.declared.record_type.RecordType.TheVariants as types
use Rattle.dns_data.specs.Rdata.{type_of}
use Rattle.grant_policy.specs.declared.action.Action.{Action}
use Rattle.grant_policy.specs.declared.action.Action.TheVariants as action
use Rattle.grant_policy.specs.declared.rule.Rule.{Rule}
use Rattle.grant_policy.specs.Isolated.{question}
use Rattle.grant_policy.specs.Decisions.{decision, is_granted}
use Rattle.zone_core.specs.declared.update.Operation.{Operation}
use Rattle.zone_core.specs.declared.update.Operation.TheVariants.{Add, DeleteRrset, DeleteName, DeleteRecord}
use Rattle.zone_core.specs.Zones.{ZoneOf}
use Rattle.zone_core.specs.Updates.{UpdateOf, IsUpdate, ActsWithin}
use Rattle.zone_core.specs.Effects.{zone_after}
use Rattle.zone_answers.specs.Answers.{Name}

-- whether the records of a type at a name make a delegation: NS at another name than the origin, and DS (RFC 1034 section 4.2.1, RFC 4034
-- section 5)
abbrev pub delegates : Name → Name → RecordType → Bool
delegates origin name types.Ns = not (same_name name origin)
delegates origin name types.Ds = true
delegates origin name record_type = false

-- the action that a change of records asks for: to delegate, where they make a delegation
abbrev pub action_for : Name → Action → Name → RecordType → Action
action_for origin change name record_type = if delegates origin name record_type then action.Delegate else change

-- whether a policy grants a caller a change of the records of a type at a name
abbrev pub may : List Rule → List ℕ → Name → Action → Name → RecordType → Bool
may rules caller origin change name record_type = is_granted (decision (question caller name record_type (action_for origin change name record_type)) rules)

-- the records of a type are deleted with a name: but SOA, and at the origin NS and DS (RFC 2136 section 2.5.3)
pub record IsDeletedWith (origin name : Name) (record_type : RecordType) : Type 0 where
  pub not_soa : record_type ≢ types.Soa
  pub not_at_origin : name ≡ origin → (record_type ≢ types.Ns) × (record_type ≢ types.Ds)

-- an operation is permitted: each change that it asks for is granted (RFC 2136 section 2.5)
abbrev pub IsPermittedOperation : List Rule → List ℕ → Name → Operation → Type 0
IsPermittedOperation rules caller origin (Add r) = may rules caller origin action.Add r.owner (type_of r.rdata) ≡ true
IsPermittedOperation rules caller origin (DeleteRrset name record_type) = may rules caller origin action.Delete name record_type ≡ true
IsPermittedOperation rules caller origin (DeleteName name) =
    (record_type : RecordType) → IsDeletedWith origin name record_type → may rules caller origin action.Delete name record_type ≡ true
IsPermittedOperation rules caller origin (DeleteRecord name rdata) = may rules caller origin action.Delete name (type_of rdata) ≡ true

-- an update of a zone of this origin, all of whose names are within it, and all of whose operations are permitted
pub record IsPermitted (rules : List Rule) (caller : List ℕ) (origin : Name) (update : UpdateOf) : Type 0 where
  pub is : IsUpdate update
  pub within : ActsWithin origin update
  pub operations : AllByRecursion (IsPermittedOperation rules caller origin) update.operations

-- a zone comes of another by updates in turn; one whose prerequisites do not hold is as none
abbrev pub ComesBy : List Rule → List ℕ → List UpdateOf → ZoneOf → ZoneOf → Type 0
ComesBy rules caller [] before after = after ≡ before
ComesBy rules caller (update ∷ updates) before after = IsPermitted rules caller before.origin update × ComesBy rules caller updates (zone_after before update) after

-- a zone that a caller can make of another, whatever updates it makes
abbrev pub CanMake : List Rule → List ℕ → ZoneOf → ZoneOf → Type 0
CanMake rules caller before after = (updates : List UpdateOf) × ComesBy rules caller updates before after
