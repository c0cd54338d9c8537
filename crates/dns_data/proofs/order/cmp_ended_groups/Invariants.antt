use Rattle.std.proofs.Common.{◌≡◌, ◌++◌, ◌∷◌, [], ℕ, List, length, flat_map}
use Rattle.std.specs.Ordering.{nat_cmp}
use Rattle.std.specs.Cmp.Lexicographic.{slice_cmp}
use Rattle.std.specs.Net.Text.{hex}
use Rattle.dns_data.proofs.order.cmp_ended_groups.Given as goal

-- as many groups are left of both, and they tie or differ as all do
abbrev pub invariant-loop-our : goal.invariant-loop-our
invariant-loop-our l =
    (length l.ours ≡ length l.theirs)
    × ((u v : List ℕ) → slice_cmp nat_cmp (flat_map (λ s. hex s ++ 58 ∷ []) l.ours ++ u) (flat_map (λ s. hex s ++ 58 ∷ []) l.theirs ++ v) ≡ slice_cmp nat_cmp (flat_map (λ s. hex s ++ 58 ∷ []) l.first ++ u) (flat_map (λ s. hex s ++ 58 ∷ []) l.second ++ v))

abbrev pub decreases-loop-our : goal.decreases-loop-our
decreases-loop-our l = length l.ours
