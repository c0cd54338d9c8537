use Rattle.std.proofs.Common.{◌≡◌, ◌++◌, ◌∷◌, [], length}
use Rattle.std.specs.Ordering.{nat_cmp}
use Rattle.std.specs.Cmp.Lexicographic.{slice_cmp}
use Rattle.dns_data.specs.Strings.{string_text}
use Rattle.dns_data.proofs.order.cmp_strings.Given as goal

-- what is left of both ties or differs as the whole does
abbrev pub invariant-loop-their : goal.invariant-loop-their
invariant-loop-their l = slice_cmp nat_cmp (string_text l.ours ++ 34 ∷ []) (string_text l.theirs ++ 34 ∷ []) ≡ slice_cmp nat_cmp (string_text l.first ++ 34 ∷ []) (string_text l.second ++ 34 ∷ [])

abbrev pub decreases-loop-their : goal.decreases-loop-their
decreases-loop-their l = length l.ours
