use Rattle.policy_tools.specs.Wanted.{wants}
use Rattle.policy_tools.proofs.PointLemmas.{AreBits}
use Rattle.policy_tools.proofs.points.Points.wanted.Given as goal

-- the pairs of lower numbers
abbrev pub invariant-loop-number : goal.invariant-loop-number
invariant-loop-number l = AreBits (wants l.wanted) l.number l.bits
