use Rattle.policy_tools.proofs.RepresentativeLemmas.{AreServed}
use Rattle.policy_tools.proofs.representatives.representatives.Given as goal

-- the root and the names of the rules so far are among the names, each with a free one below it where there is one
abbrev pub invariant-loop-i : goal.invariant-loop-i
invariant-loop-i l = AreServed l.rules l.i l.names.items
