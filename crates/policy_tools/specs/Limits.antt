-- Limits: nobody but some callers may do something with records at some names.
use Rattle.std.specs.Prelude.{◌≡◌, ℕ, List, ◌++◌, Option, Some, None}
use Rattle.std.specs.List.{All, Contains}
use Rattle.dns_names.specs.Labels.{IsName, IsWithin}
use Rattle.dns_data.specs.declared.record_type.RecordType.{RecordType}
use Rattle.grant_policy.specs.declared.action.Action.{Action}
use Rattle.grant_policy.specs.declared.rule.Rule.{Rule}
use Rattle.grant_policy.specs.Identifiers.{IsIdentifier}
use Rattle.grant_policy.specs.Isolated.{IsGranted}
use Rattle.grant_policy.specs.Rules.{Has}
use Rattle.grant_policy.specs.Scopes.{Covers}
use Rattle.policy_tools.specs.declared.expectation.Limit.{Limit}
use Rattle.policy_tools.specs.declared.exposure.Right.{Right}
use Rattle.policy_tools.specs.declared.limits.Excess.{Excess}
use Rattle.policy_tools.specs.Changes.{place_of}
use Rattle.policy_tools.specs.Exposures.{IsGrantedBy, IsUnnamed}
use Rattle.policy_tools.specs.Representatives.{AreAlike}

-- a limit speaks of a type and an action at a name
pub record IsLimited (limit : Limit) (name : List (List ℕ)) (record_type : RecordType) (action : Action) : Type 0 where
  pub scope : Covers limit.scope limit.at name
  pub types : Has limit.types record_type
  pub actions : Has limit.actions action

-- at a name, nothing of which the limit speaks is granted to a caller that it does not list
abbrev pub IsKeptAt : List Rule → Limit → List (List ℕ) → Type 0
IsKeptAt rules limit name =
    (caller : List ℕ) (t : RecordType) (a : Action) → ¬ Contains limit.callers caller → IsLimited limit name t a → ¬ IsGranted rules caller name t a

-- at every name, of which there are infinitely many
abbrev pub IsKept : List Rule → Limit → Type 0
IsKept rules limit = (name : List (List ℕ)) → IsName name → IsKeptAt rules limit name

-- ---- what is granted beyond it

-- a caller that neither the limit lists nor a rule names
pub record IsUnknown (rules : List Rule) (limit : Limit) (caller : List ℕ) : Type 0 where
  pub unlisted : ¬ Contains limit.callers caller
  pub unnamed : IsUnnamed rules caller

-- every such caller has the right, and there are such identifiers
pub record UnknownHave (rules : List Rule) (limit : Limit) (name : List (List ℕ)) (right : Right) : Type 0 where
  pub some : (caller : List ℕ) × IsIdentifier caller × IsUnknown rules limit caller
  pub each : (caller : List ℕ) → IsUnknown rules limit caller → IsGrantedBy rules caller name right

-- a caller that the limit does not list has the right: this one, or any that no rule names either
abbrev pub UnlistedHas : List Rule → Limit → List (List ℕ) → Option (List ℕ) → Right → Type 0
UnlistedHas rules limit name (Some caller) right = (¬ Contains limit.callers caller) × IsGrantedBy rules caller name right
UnlistedHas rules limit name None right = UnknownHave rules limit name right

-- something of which the limit speaks is granted to a caller that it does not list
pub record IsExcess (rules : List Rule) (limit : Limit) (excess : Excess) : Type 0 where
  pub valid : IsName excess.name
  pub limited : IsLimited limit excess.name excess.right.record_type excess.right.action
  pub has : UnlistedHas rules limit excess.name excess.caller excess.right

-- ---- by names

-- each name of a limit is like one of these names, which is one of the limit too
pub record RepresentLimit (rules : List Rule) (limit : Limit) (names : List (List (List ℕ))) : Type 0 where
  pub valid : All IsName names
  pub each : (name : List (List ℕ)) → IsName name → Covers limit.scope limit.at name → (other : List (List ℕ)) × Contains names other × Covers limit.scope limit.at other × AreAlike rules name other

-- places are added, and among them one at the name of each rule whose name is within a top
pub record AddsPlaces (rules : List Rule) (top : List (List ℕ)) (old new : List Rule) : Type 0 where
  pub more : List Rule
  pub are : new ≡ old ++ more
  pub each : (rule : Rule) → Contains rules rule → IsWithin rule.at top → Contains more (place_of rule)

-- a rule at the name of the limit, and one at that of each rule whose name is within it
pub record ArePlaces (rules : List Rule) (limit : Limit) (places : List Rule) : Type 0 where
  pub place : Rule
  pub scope : place.scope ≡ limit.scope
  pub at : place.at ≡ limit.at
  pub own : Contains places place
  pub each : (rule : Rule) → Contains rules rule → IsWithin rule.at limit.at → Contains places (place_of rule)
