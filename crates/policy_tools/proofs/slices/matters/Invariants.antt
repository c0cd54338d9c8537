use Rattle.std.proofs.Common.{List, ℕ, take}
use Rattle.std.specs.List.{Contains}
use Rattle.policy_tools.specs.Slices.{Touches}
use Rattle.policy_tools.proofs.slices.matters.Given as goal

-- the rule speaks of no name within the origins so far
abbrev pub invariant-loop-origin : goal.invariant-loop-origin
invariant-loop-origin l = (origin : List (List ℕ)) → Contains (take l.origin-index l.origins) origin → ¬ Touches l.rule origin
