use Rattle.std.proofs.Common.{ℕ, ◌<◌, ◌∷◌}
use Rattle.policy_tools.specs.FreeNames.{IsFree, pair_of}
use Rattle.policy_tools.proofs.free_names.long_child.Given as goal

-- some rule has each name so far
abbrev pub invariant-loop-number : goal.invariant-loop-number
invariant-loop-number l = (k : ℕ) → k < l.number → ¬ IsFree l.rules (pair_of k ∷ l.top)
