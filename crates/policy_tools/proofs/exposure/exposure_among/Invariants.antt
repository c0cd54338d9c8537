use Rattle.std.proofs.Common.{ℕ, ◌<◌, [], get_or}
use Rattle.grant_policy.specs.Isolated.{IsIsolatedAt}
use Rattle.policy_tools.proofs.exposure.exposure_among.Given as goal

-- the caller is isolated at the names so far
abbrev pub invariant-loop-name : goal.invariant-loop-name
invariant-loop-name l = (k : ℕ) → k < l.name-index → IsIsolatedAt l.rules l.caller (get_or l.names k [])
