use Rattle.std.proofs.lemmas.Bool.{both_ways}
use Rattle.policy_tools.proofs.PointLemmas.{differ_from, same_from, both_parts}
use Rattle.policy_tools.proofs.points.Points.differs.Goals as goal

pub returns-clause-some : goal.returns-clause-some
returns-clause-some c = λ e.
    differ_from c.args.self.bits c.args.other.bits c.with-apart.result.bits
    (both_parts c.args.self.bits c.args.other.bits c.without.result.bits c.without-2.result.bits c.with-apart.result.bits c.without.ensures c.without-2.ensures c.with-apart.ensures)
    (c.meets.ensures.0 e)

pub returns-clause-none : goal.returns-clause-none
returns-clause-none c = λ e t a.
    same_from c.args.self.bits c.args.other.bits c.with-apart.result.bits
    (both_parts c.args.self.bits c.args.other.bits c.without.result.bits c.without-2.result.bits c.with-apart.result.bits c.without.ensures c.without-2.ensures c.with-apart.ensures)
    (λ m. both_ways c.meets.result e (c.meets.ensures.1 m)) t a
