use Rattle.std.proofs.Common.{◌∙◌}
use Rattle.policy_build.proofs.LoopLemmas.{taken_of}
use Rattle.policy_build.proofs.building.has_id.Goals as goal

pub returns : goal.returns
returns c = c.any_has_id.ensures ∙ taken_of c.args.id.now c.args.rules.now
