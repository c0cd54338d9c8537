use Rattle.std.proofs.lemmas.Bool.{both_ways, false≢true}
use Rattle.policy_tools.proofs.SliceLemmas.{touches_reach, touches_exactly}
use Rattle.policy_tools.proofs.slices.touches.Goals as goal

pub returns-then-not-reaches : goal.returns-then-not-reaches
returns-then-not-reaches c = (λ e. absurd (false≢true e), λ t. absurd (both_ways c.reaches.result c.if-not-reaches.true (c.reaches.ensures.1 (touches_reach c.args.rule.now c.args.origin.now t))))

pub returns : goal.returns
returns c = touches_exactly c.args.rule.now c.args.origin.now c.has_names.result c.reveal_name.ensures c.reveal_name-2.ensures (c.reaches.ensures.0 c.if-not-reaches.false) c.has_names.ensures
