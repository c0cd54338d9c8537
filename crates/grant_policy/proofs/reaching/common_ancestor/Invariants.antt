use Rattle.std.proofs.Common.{length}
use Rattle.grant_policy.proofs.ReachLemmas.{IsPassed}
use Rattle.grant_policy.proofs.reaching.common_ancestor.Given as goal

abbrev pub invariant-loop-alloc : goal.invariant-loop-alloc
invariant-loop-alloc l = IsPassed l.fn.name l.other l.top

abbrev pub decreases-loop-alloc : goal.decreases-loop-alloc
decreases-loop-alloc l = length l.top
