-- Rules that never decide, and the rules that take their questions.
use Rattle.std.specs.Prelude.{◌≡◌, ◌↔◌, ◌⊎◌, ℕ, List, [], ◌∷◌, ◌++◌, Some, slice_get}
use Rattle.std.specs.List.{Contains}
use Rattle.std.specs.List.Sorted.{IsStrictlyIncreasing}
use Rattle.dns_names.specs.Labels.{IsName}
use Rattle.policy_tools.specs.declared.idle.IdleRule.{IdleRule}
use Rattle.grant_policy.specs.declared.rule.Rule.{Rule}
use Rattle.grant_policy.specs.Identifiers.{IsIdentifier}
use Rattle.grant_policy.specs.Rules.{Question, Matches}
use Rattle.grant_policy.specs.Decisions.{IsFirstMatch}

-- what may be asked: by a caller that is an identifier, of a name
pub record CanBeAsked (asked : Question) : Type 0 where
  pub caller : IsIdentifier asked.caller
  pub name : IsName asked.name

-- rule i decides nothing that may be asked
abbrev pub IsIdle : List Rule → ℕ → Type 0
IsIdle rules i = (asked : Question) (rule : Rule) → CanBeAsked asked → ¬ IsFirstMatch asked rules i rule

-- rule j decides something that rule i matches
pub record Takes (rules : List Rule) (i j : ℕ) : Type 0 where
  pub asked : Question
  pub can : CanBeAsked asked
  pub rule : Rule
  pub at : slice_get rules i ≡ Some rule
  pub matching : Matches asked rule
  pub taker : Rule
  pub first : IsFirstMatch asked rules j taker

-- those are the rules that do, in order
pub record AreTakers (rules : List Rule) (i : ℕ) (takers : List ℕ) : Type 0 where
  pub each : (j : ℕ) → Contains takers j ↔ Takes rules i j
  pub ordered : IsStrictlyIncreasing takers

-- a rule is added with its takers, unless it is one of them
abbrev pub PushesIdle : IdleRule → List IdleRule → List IdleRule → Type 0
PushesIdle row old new =
    ((new ≡ old) × Contains row.takers.items row.rule)
    ⊎ ((new ≡ old ++ row ∷ []) × (¬ Contains row.takers.items row.rule))
