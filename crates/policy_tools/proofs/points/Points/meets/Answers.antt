use Rattle.std.proofs.Common.{bit_and}
use Rattle.std.proofs.lemmas.Bool.{eqb-false, not-true, not_from_false, ne_eqb}
use Rattle.policy_tools.proofs.PointLemmas.{some_pair, not_none}
use Rattle.policy_tools.proofs.points.Points.meets.Goals as goal

pub returns : goal.returns
returns c =
    let x = c.args.self.bits in
    let y = c.args.other.bits in (
      λ yes'. some_pair x y c.args.self.few (eqb-false (bit_and x y) 0 (not-true _ yes')),
      λ m. not_from_false _ (ne_eqb (bit_and x y) 0 (not_none x y m)),
    )
