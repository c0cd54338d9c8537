use Rattle.std.proofs.Common.{◌≡◌, length}
use Rattle.std.specs.Ordering.{nat_cmp, ordering_then}
use Rattle.std.specs.Cmp.Lexicographic.{slice_cmp}
use Rattle.dns_data.specs.Items.{items_text}
use Rattle.dns_data.specs.Text.{strings_items}
use Rattle.dns_data.proofs.StringOrderLemmas.{strings_order}
use Rattle.dns_data.proofs.order.cmp_txt.Given as goal

-- the order of the strings that were passed, and then that of those which are left, is the order of the texts
abbrev pub invariant-loop-order : goal.invariant-loop-order
invariant-loop-order l =
    ordering_then l.order (strings_order l.ours l.theirs) ≡ slice_cmp nat_cmp (items_text (strings_items l.first)) (items_text (strings_items l.second))

abbrev pub decreases-loop-order : goal.decreases-loop-order
decreases-loop-order l = length l.ours
