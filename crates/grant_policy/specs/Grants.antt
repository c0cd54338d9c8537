-- What a policy grants a caller of an action.
use Rattle.std.specs.Prelude.{◌≡◌, ℕ, List, Bool, Option, IfSome}
use Rattle.std.specs.List.Sorted.{IsPermutation}
use Rattle.dns_names.specs.Keys.{key_of}
use Rattle.dns_data.specs.declared.record_type.RecordType.{RecordType}
use Rattle.grant_policy.specs.declared.action.Action.{Action}
use Rattle.grant_policy.specs.declared.rule.Rule.{Rule}
use Rattle.grant_policy.specs.Decisions.{decision, is_granted}
use Rattle.grant_policy.specs.Boundaries.{boundaries, region_of}
use Rattle.grant_policy.specs.Known.{known}

-- the rules, the caller and the action
pub record GrantsOf : Type 0 where
  pub rules : List Rule
  pub caller : List ℕ
  pub action : Action

-- whether the rules grant the caller the action on the records of a type at a name
abbrev pub includes : GrantsOf → List (List ℕ) → RecordType → Bool
includes grants name record_type =
    is_granted (decision (record { caller = grants.caller; name = name; record_type = record_type; action = grants.action }) grants.rules)

-- what is known holds at all names of the region
pub record AreKnown (grants : GrantsOf) (bs : List (List ℕ)) (region : ℕ) (granted : List (Option Bool)) : Type 0 where
  pub moved : IsPermutation (boundaries grants.caller grants.rules) bs
  pub right : (name : List (List ℕ)) (record_type : RecordType) → region_of bs (key_of name) ≡ region → IfSome (known granted record_type) (λ g. g ≡ includes grants name record_type)
