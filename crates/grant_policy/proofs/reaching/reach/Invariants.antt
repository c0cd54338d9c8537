use Rattle.std.proofs.Common.{drop}
use Rattle.grant_policy.proofs.ReachLemmas.{ReachesSoFar}
use Rattle.grant_policy.proofs.reaching.reach.Given as goal

abbrev pub invariant-loop-rule : goal.invariant-loop-rule
invariant-loop-rule l = ReachesSoFar l.policy l.caller l.action l.origin (drop l.rule-index l.rule-items) l.so_far
