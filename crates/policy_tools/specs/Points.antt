-- Pairs of a record type and an action, by number: five for each type, one for each action.
use Rattle.std.specs.Prelude.{ℕ, ◌+◌, ◌*◌, ◌/◌, ◌%◌, List, Option, Bool, true, ◌&&◌, ◌==◌, ◌≡◌, ◌≢◌, length, slice_index_or}
use Rattle.std.specs.Int.{bit_at}
use Rattle.dns_data.specs.declared.record_type.RecordType.{RecordType}
use Rattle.dns_data.specs.declared.record_type.RecordType.TheVariants.{A}
use Rattle.dns_data.specs.Types.{kept_types, place_of}
use Rattle.grant_policy.specs.declared.action.Action.{Action}
use Rattle.grant_policy.specs.declared.action.Action.TheVariants as actions
use Rattle.grant_policy.specs.declared.rule.Rule.{Rule}
use Rattle.grant_policy.specs.Words.{action_place, all_actions}
use Rattle.grant_policy.specs.Rules.{has, same_type, same_action}

-- how many there are
abbrev pub pairs : ℕ
pairs = 5 * length kept_types

abbrev pub pair_number : RecordType → Action → ℕ
pair_number t a = 5 * place_of t + action_place a

abbrev pub type_at : ℕ → RecordType
type_at number = slice_index_or kept_types (number / 5) A

abbrev pub action_at : ℕ → Action
action_at number = slice_index_or all_actions (number % 5) actions.List

-- whether a pair is in the set of these bits
abbrev pub has_point : ℕ → RecordType → Action → Bool
has_point bits t a = bit_at bits (pair_number t a) == 1

-- whether some types and some actions have it
abbrev pub names_pair : Option (List RecordType) → Option (List Action) → RecordType → Action → Bool
names_pair types actions t a = has same_type types t && has same_action actions a

-- whether a rule speaks of it
abbrev pub names_point : Rule → RecordType → Action → Bool
names_point rule t a = names_pair rule.types rule.actions t a

-- a pair is in both sets
pub record IsInBoth (one other : ℕ) (record_type : RecordType) (action : Action) : Type 0 where
  pub in_one : has_point one record_type action ≡ true
  pub in_other : has_point other record_type action ≡ true

-- some pair is in both sets
pub record Meet (one other : ℕ) : Type 0 where
  pub record_type : RecordType
  pub action : Action
  pub in_one : has_point one record_type action ≡ true
  pub in_other : has_point other record_type action ≡ true

-- some pair is in one of both sets and not in the other
pub record Differ (one other : ℕ) : Type 0 where
  pub record_type : RecordType
  pub action : Action
  pub differ : has_point one record_type action ≢ has_point other record_type action
