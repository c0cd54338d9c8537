-- What a caller may not list in a zone.
use Rattle.std.specs.Prelude.{ℕ, List}
use Rattle.std.specs.List.{All, Contains}
use Rattle.dns_names.specs.Labels.{IsName, IsWithin}
use Rattle.dns_data.specs.declared.record_type.RecordType.{RecordType}
use Rattle.grant_policy.specs.declared.action.Action.TheVariants as action
use Rattle.grant_policy.specs.declared.rule.Rule.{Rule}
use Rattle.grant_policy.specs.Isolated.{IsGranted}
use Rattle.policy_tools.specs.declared.readers.Hidden.{Hidden}
use Rattle.policy_tools.specs.Representatives.{AreAlike}

-- if a name is within an origin, a caller may list the records of every type there
abbrev pub MayListWithin : List Rule → List ℕ → List (List ℕ) → List (List ℕ) → Type 0
MayListWithin rules caller origin name = IsWithin name origin → (t : RecordType) → IsGranted rules caller name t action.List

-- at every name, of which there are infinitely many
abbrev pub MayListAll : List Rule → List ℕ → List (List ℕ) → Type 0
MayListAll rules caller origin = (name : List (List ℕ)) → IsName name → MayListWithin rules caller origin name

-- a name within an origin, and a type whose records there a caller may not list
pub record IsHidden (rules : List Rule) (caller : List ℕ) (origin : List (List ℕ)) (hidden : Hidden) : Type 0 where
  pub valid : IsName hidden.name
  pub within : IsWithin hidden.name origin
  pub denied : ¬ IsGranted rules caller hidden.name hidden.record_type action.List

-- each name within an origin is like one of these names, which is within it too
pub record RepresentWithin (rules : List Rule) (origin : List (List ℕ)) (names : List (List (List ℕ))) : Type 0 where
  pub valid : All IsName names
  pub each : (name : List (List ℕ)) → IsName name → IsWithin name origin → (other : List (List ℕ)) × Contains names other × IsWithin other origin × AreAlike rules name other
