use Rattle.policy_tools.specs.Claims.{AreEntries, rules_of}
use Rattle.policy_tools.proofs.claims.entries_at.Given as goal

-- the entries of the rules so far
abbrev pub invariant-loop-number : goal.invariant-loop-number
invariant-loop-number l = AreEntries (rules_of l.claims) l.name l.number l.entries.items
