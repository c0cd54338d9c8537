use Rattle.std.proofs.lemmas.Nat.{or_lt}
use Rattle.policy_tools.proofs.PointLemmas.{with_points}
use Rattle.policy_tools.specs.Points.{pairs}
use Rattle.policy_tools.proofs.points.Points.with.Goals as goal

pub invariant_of-result : goal.invariant_of-result
invariant_of-result c = record { few = or_lt pairs c.args.self.bits c.args.other.bits c.args.self.few c.args.other.few }

pub returns : goal.returns
returns c = with_points c.args.self.bits c.args.other.bits
