use Rattle.std.proofs.Common.{◌≡◌, ℕ, ◌<◌, [], ◌∷◌}
use Rattle.std.specs.Char.{to_ascii_lowercase}
use Rattle.policy_tools.specs.FreeNames.{IsFree}
use Rattle.policy_tools.proofs.free_names.short_child.Given as goal

-- some rule has each name so far
abbrev pub invariant-loop-number : goal.invariant-loop-number
invariant-loop-number l = (o : ℕ) → o < l.number → to_ascii_lowercase o ≡ o → ¬ IsFree l.rules ((o ∷ []) ∷ l.top)
