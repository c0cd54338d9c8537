use Rattle.std.proofs.Common.{arith}
use Rattle.policy_tools.proofs.PointLemmas.{first_pair, not_none}
use Rattle.policy_tools.proofs.points.Points.shared.Goals as goal

pub returns-then-both-eq0 : goal.returns-then-both-eq0
returns-then-both-eq0 c = λ m. not_none c.args.self.bits c.args.other.bits m c.if-both-eq0.true

pub bounds-number-number : goal.bounds-number-number
bounds-number-number c = omega (arith, (first_pair c.args.self.bits c.args.other.bits c.args.self.few c.if-both-eq0.false).0)

pub returns : goal.returns
returns c = (first_pair c.args.self.bits c.args.other.bits c.args.self.few c.if-both-eq0.false).1
