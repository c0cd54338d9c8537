-- Whether a policy permits an update: whether it grants each point that the update asks for.
use Rattle.std.specs.Prelude.{◌≡◌, ℕ, ◌+◌, ◌*◌, ◌<◌, List, [], ◌∷◌, length, count_by, Option, Some, None, option_map, slice_get}
use Rattle.std.specs.List.{AllByRecursion}
use Rattle.std.specs.Option.{option_or}
use Rattle.dns_data.specs.declared.record_type.RecordType.{RecordType}
use Rattle.grant_policy.specs.declared.action.Action.{Action}
use Rattle.grant_policy.specs.declared.rule.Rule.{Rule}
use Rattle.grant_policy.specs.Rules.{Question}
use Rattle.grant_policy.specs.Decisions.{Verdict, granted, denied, decision, decider, concerns}
use Rattle.zone_core.specs.declared.update.Place.{Place}
use Rattle.zone_core.specs.Updates.{UpdateOf, tested_name, acted_name}
use Rattle.office_core.specs.declared.permission.Denial.{Denial}
use Rattle.office_core.specs.Footprints.{PrerequisiteAsks, OperationAsks, Point}

-- a caller asks for an action with the records of a type at a name
abbrev pub question : List ℕ → List (List ℕ) → RecordType → Action → Question
question caller name record_type asked = record { caller = caller; name = name; record_type = record_type; action = asked }

-- a rule grants it
abbrev pub IsGranted : List Rule → List ℕ → List (List ℕ) → RecordType → Action → Type 0
IsGranted rules caller name record_type asked = (id : List ℕ) × (decision (question caller name record_type asked) rules ≡ granted id)

-- an update is permitted: all that its prerequisites and operations ask for is granted
pub record IsPermitted (rules : List Rule) (caller : List ℕ) (origin : List (List ℕ)) (update : UpdateOf) : Type 0 where
  pub prerequisites : AllByRecursion (λ p. (t : RecordType) (a : Action) → PrerequisiteAsks p t a → IsGranted rules caller (tested_name p) t a) update.prerequisites
  pub operations : AllByRecursion (λ op. (t : RecordType) (a : Action) → OperationAsks origin op t a → IsGranted rules caller (acted_name op) t a) update.operations

-- ---- denials

-- the item that is denied, and the id of the rule that does, where one does
pub record DenialOf : Type 0 where
  pub place : Place
  pub by : Option (List ℕ)

abbrev pub denial_of : Denial → DenialOf
denial_of denial = record { place = denial.place; by = option_map (λ id. id.now) denial.by }

-- by what it is named: the rule, or `closing`
abbrev pub rule_of : DenialOf → List ℕ
rule_of denial = decider (denied denial.by)

-- a denial is that of a point which is denied so, and all points before it are granted
pub record IsFirstDenial (rules : List Rule) (caller : List ℕ) (points : List Point) (denial : DenialOf) : Type 0 where
  pub number : ℕ
  pub point : Point
  pub at : slice_get points number ≡ Some point
  pub place : denial.place ≡ point.place
  pub by : decision (question caller point.name point.record_type point.action) rules ≡ denied denial.by
  pub first : (j : ℕ) (earlier : Point) → j < number → slice_get points j ≡ Some earlier → IsGranted rules caller earlier.name earlier.record_type earlier.action

-- ---- the first

-- the denial of an item at a place by a verdict
abbrev pub denial_at : Place → Verdict → Option DenialOf
denial_at place (granted id) = None
denial_at place (denied by) = Some (record { place = place; by = by })

-- the denial of a point, where there is one and it is denied
abbrev pub point_denial : List Rule → List ℕ → Option Point → Option DenialOf
point_denial rules caller None = None
point_denial rules caller (Some p) = denial_at p.place (decision (question caller p.name p.record_type p.action) rules)

-- the denial of the first point that is denied
abbrev pub first_denial : List Rule → List ℕ → List Point → Option DenialOf
first_denial rules caller [] = None
first_denial rules caller (p ∷ ps) = option_or (point_denial rules caller (Some p)) (first_denial rules caller ps)

-- ---- cost

-- the look-ups of the decision of a point: two for each name from its name to the root, and one for each rule of the caller or
-- of every caller whose name is one of these
abbrev pub point_cost : List Rule → List ℕ → Point → ℕ
point_cost rules caller p = 2 * (length p.name + 1) + count_by (concerns caller p.name) rules
