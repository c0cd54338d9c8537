-- The types and the actions of a rule.
use Rattle.std.specs.Prelude.{◌<◌, List, length, Option, Some, None}
use Rattle.grant_policy.specs.declared.rule.Rule.{Rule}

-- all there are, or one at least
abbrev pub IsSelection : {X : Type 0} → Option (List X) → Type 0
IsSelection None = Unit {0}
IsSelection (Some xs) = 0 < length xs

-- a rule that selects a type and an action
pub record SelectsSome (rule : Rule) : Type 0 where
  pub types : IsSelection rule.types
  pub actions : IsSelection rule.actions
