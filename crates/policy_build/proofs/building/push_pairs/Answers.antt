use Rattle.std.proofs.Common.{refl}
use Rattle.policy_build.proofs.LoopLemmas.{pairs_more}
use Rattle.policy_build.proofs.building.push_pairs.Goals as goal

pub loop-one-preserved : goal.loop-one-preserved
loop-one-preserved c = pairs_more _ _ c.loop-one.one-index c.one-item.result _ _ _ _ c.loop-one-test.true c.one-item.is c.in_ok-push.ensures.items refl c.loop-one.invariant
