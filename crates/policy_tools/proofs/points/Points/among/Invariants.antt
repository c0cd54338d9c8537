use Rattle.policy_tools.specs.Points.{names_pair}
use Rattle.policy_tools.proofs.PointLemmas.{AreBits}
use Rattle.policy_tools.proofs.points.Points.among.Given as goal

-- the pairs of lower numbers
abbrev pub invariant-loop-number : goal.invariant-loop-number
invariant-loop-number l = AreBits (names_pair l.types l.actions) l.number l.bits
