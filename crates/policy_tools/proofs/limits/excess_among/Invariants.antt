use Rattle.std.proofs.Common.{ℕ, ◌<◌, [], get_or}
use Rattle.policy_tools.specs.Limits.{IsKeptAt}
use Rattle.policy_tools.proofs.limits.excess_among.Given as goal

-- the limit is kept at the names so far
abbrev pub invariant-loop-name : goal.invariant-loop-name
invariant-loop-name l = (k : ℕ) → k < l.name-index → IsKeptAt l.rules l.limit (get_or l.names k [])
