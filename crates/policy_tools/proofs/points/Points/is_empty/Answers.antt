use Rattle.policy_tools.proofs.PointLemmas.{empty_from}
use Rattle.policy_tools.proofs.points.Points.is_empty.Goals as goal

pub returns : goal.returns
returns c = empty_from c.args.self.bits c.meets.result c.meets.ensures.0 c.meets.ensures.1
