-- Whether the policy alone isolates a caller: whatever others ask, they change nothing that it may see.
use Rattle.std.specs.Prelude.{◌≡◌, ◌≢◌, ◌⊎◌, ℕ, List}
use Rattle.dns_names.specs.Labels.{IsName}
use Rattle.dns_data.specs.declared.record_type.RecordType.{RecordType}
use Rattle.dns_data.specs.declared.record_type.RecordType.TheVariants as types
use Rattle.grant_policy.specs.declared.action.Action.{Action}
use Rattle.grant_policy.specs.declared.action.Action.TheVariants as action
use Rattle.grant_policy.specs.declared.rule.Rule.{Rule}
use Rattle.grant_policy.specs.Rules.{Question}
use Rattle.grant_policy.specs.Decisions.{HasRight, decision, granted}

-- ---- grants

-- what a caller asks at a name
abbrev pub question : List ℕ → List (List ℕ) → RecordType → Action → Question
question caller name record_type asked = record { caller = caller; name = name; record_type = record_type; action = asked }

-- a rule grants it
abbrev pub IsGranted : List Rule → List ℕ → List (List ℕ) → RecordType → Action → Type 0
IsGranted rules caller name record_type asked = (id : List ℕ) × (decision (question caller name record_type asked) rules ≡ granted id)

-- an action that shows records, and one that changes them
abbrev pub ShowsRecords : Action → Type 0
ShowsRecords asked = (asked ≡ action.List) ⊎ (asked ≡ action.Check)

abbrev pub ChangesRecords : Action → Type 0
ChangesRecords asked = (asked ≡ action.Add) ⊎ ((asked ≡ action.Delete) ⊎ (asked ≡ action.Delegate))

-- ---- isolation

-- at a name: the caller may neither list nor check an SOA; and where something is granted to it, no other caller may change records of any
-- type
pub record IsIsolatedAt (rules : List Rule) (caller : List ℕ) (name : List (List ℕ)) : Type 0 where
  pub blind : (asked : Action) → ShowsRecords asked → ¬ IsGranted rules caller name types.Soa asked
  pub alone : HasRight rules caller name → (other : List ℕ) (record_type : RecordType) (asked : Action) → other ≢ caller → ChangesRecords asked → ¬ IsGranted rules other name record_type asked

-- at every name
abbrev pub IsIsolated : List Rule → List ℕ → Type 0
IsIsolated rules caller = (name : List (List ℕ)) → IsName name → IsIsolatedAt rules caller name
