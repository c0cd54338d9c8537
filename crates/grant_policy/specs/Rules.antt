-- When a rule matches what is asked.
use Rattle.std.specs.Prelude.{◌≡◌, ℕ, List, Bool, true, ◌&&◌, ◌==◌, Option, Some, None, bytes_eq}
use Rattle.std.specs.List.{Contains, list_any}
use Rattle.dns_data.specs.declared.record_type.RecordType.{RecordType}
use Rattle.dns_data.specs.Types.{type_number}
use Rattle.grant_policy.specs.declared.action.Action.{Action}
use Rattle.grant_policy.specs.declared.callers.Callers.{Callers}
use Rattle.grant_policy.specs.declared.callers.Callers.TheVariants.{Every, One}
use Rattle.grant_policy.specs.declared.rule.Rule.{Rule}
use Rattle.grant_policy.specs.Words.{action_text}
use Rattle.grant_policy.specs.Scopes.{Covers, covers}

-- a caller asks to do something with the records of a type at a name
pub record Question : Type 0 where
  pub caller : List ℕ
  pub name : List (List ℕ)
  pub record_type : RecordType
  pub action : Action

-- every caller, or one, compared exactly
abbrev pub IsOf : Callers → List ℕ → Type 0
IsOf Every caller = Unit {0}
IsOf (One identifier) caller = identifier ≡ caller

-- all there are, or those that are listed
abbrev pub Has : {X : Type 0} → Option (List X) → X → Type 0
Has None x = Unit {0}
Has (Some listed) x = Contains listed x

-- a rule matches when each of its parts does
pub record Matches (asked : Question) (rule : Rule) : Type 0 where
  pub callers : IsOf rule.callers asked.caller
  pub scope : Covers rule.scope rule.at asked.name
  pub types : Has rule.types asked.record_type
  pub actions : Has rule.actions asked.action

-- ---- whether it is so

abbrev pub is_of : Callers → List ℕ → Bool
is_of Every caller = true
is_of (One identifier) caller = bytes_eq identifier caller

abbrev pub has : {X : Type 0} → (X → X → Bool) → Option (List X) → X → Bool
has same None x = true
has same (Some listed) x = list_any (λ y. same y x) listed

abbrev pub same_type : RecordType → RecordType → Bool
same_type a b = type_number a == type_number b

abbrev pub same_action : Action → Action → Bool
same_action a b = bytes_eq (action_text a) (action_text b)

abbrev pub matches : Question → Rule → Bool
matches asked rule =
    is_of rule.callers asked.caller
    && (covers rule.scope rule.at asked.name && (has same_type rule.types asked.record_type && has same_action rule.actions asked.action))
