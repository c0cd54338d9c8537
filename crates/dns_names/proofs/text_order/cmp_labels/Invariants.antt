use Rattle.std.proofs.Common.{◌≡◌, length}
use Rattle.std.specs.Ordering.{nat_cmp}
use Rattle.std.specs.Cmp.Lexicographic.{slice_cmp}
use Rattle.dns_names.specs.Spelling.{label_text}
use Rattle.dns_names.proofs.text_order.cmp_labels.Given as goal

-- what is left of both ties or differs as the whole does
abbrev pub invariant-loop-their : goal.invariant-loop-their
invariant-loop-their l = slice_cmp nat_cmp (label_text l.ours) (label_text l.theirs) ≡ slice_cmp nat_cmp (label_text l.first) (label_text l.second)

abbrev pub decreases-loop-their : goal.decreases-loop-their
decreases-loop-their l = length l.ours
