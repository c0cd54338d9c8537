use Rattle.policy_tools.proofs.PointLemmas.{without_points}
use Rattle.policy_tools.proofs.points.Points.without.Goals as goal

pub returns : goal.returns
returns c = without_points c.args.self.bits c.args.other.bits c.args.other.few
