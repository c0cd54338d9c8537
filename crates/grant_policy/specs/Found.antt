-- The least rule that was found so far.
use Rattle.std.specs.Prelude.{◌≡◌, ℕ, ◌<◌, List, length, slice_index_or, Bool, true, nat_lt, Option, Some, None}
use Rattle.grant_policy.specs.declared.rule.Rule.{Rule}
use Rattle.grant_policy.specs.declared.deciding.Asked.{Asked}
use Rattle.grant_policy.specs.declared.deciding.Found.{Found}
use Rattle.grant_policy.specs.Rules.{Question, matches}

abbrev pub question_of : Asked → Question
question_of asked = record { caller = asked.caller.now; name = asked.name.now; record_type = asked.record_type; action = asked.action }

-- its number, or how many rules there are where none was found
abbrev pub bound_of : List Rule → Option Found → ℕ
bound_of rules None = length rules
bound_of rules (Some found) = found.number

-- a rule that matches, with its number
pub record IsRuleFound (asked : Question) (rules : List Rule) (found : Found) : Type 0 where
  pub below : found.number < length rules
  pub is : (d : Rule) → found.rule.now ≡ slice_index_or rules found.number d
  pub matching : matches asked found.rule.now ≡ true

abbrev pub IsFound : Question → List Rule → Option Found → Type 0
IsFound asked rules None = Unit {0}
IsFound asked rules (Some found) = IsRuleFound asked rules found

-- whether a number is below that of what was found
abbrev pub is_before : ℕ → Option Found → Bool
is_before number None = true
is_before number (Some found) = nat_lt number found.number
