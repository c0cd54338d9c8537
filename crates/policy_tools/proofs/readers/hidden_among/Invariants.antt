use Rattle.std.proofs.Common.{ℕ, ◌<◌, [], get_or}
use Rattle.policy_tools.specs.Claims.{rules_of}
use Rattle.policy_tools.specs.Readers.{MayListWithin}
use Rattle.policy_tools.proofs.readers.hidden_among.Given as goal

-- the caller may list all at the names so far
abbrev pub invariant-loop-name : goal.invariant-loop-name
invariant-loop-name l = (k : ℕ) → k < l.name-index → MayListWithin (rules_of l.claims) l.caller l.origin (get_or l.names k [])
