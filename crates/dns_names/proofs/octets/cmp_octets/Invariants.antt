use Rattle.std.proofs.Common.{◌≡◌, length}
use Rattle.std.specs.Ordering.{nat_cmp}
use Rattle.std.specs.Cmp.Lexicographic.{slice_cmp}
use Rattle.dns_names.proofs.octets.cmp_octets.Given as goal

-- what is left of both ties or differs as the whole does
abbrev pub invariant-loop-our : goal.invariant-loop-our
invariant-loop-our l = slice_cmp nat_cmp l.ours l.theirs ≡ slice_cmp nat_cmp l.first l.second

abbrev pub decreases-loop-our : goal.decreases-loop-our
decreases-loop-our l = length l.ours
