use Rattle.std.proofs.Common.{◌≡◌, length}
use Rattle.std.specs.List.{AllByRecursion, flat_map}
use Rattle.std.specs.Ordering.{nat_cmp, ordering_then}
use Rattle.std.specs.Cmp.Lexicographic.{slice_cmp}
use Rattle.dns_names.specs.Labels.{IsLabel}
use Rattle.dns_names.specs.Spelling.{label_text, name_text}
use Rattle.dns_names.proofs.name.Name.cmp_text.Given as goal

-- the order of the labels that were passed, and then that of those which are left, is the order of the names
abbrev pub invariant-loop-order : goal.invariant-loop-order
invariant-loop-order l =
    AllByRecursion IsLabel l.ours × AllByRecursion IsLabel l.theirs
    × (ordering_then l.order (slice_cmp nat_cmp (flat_map label_text l.ours) (flat_map label_text l.theirs)) ≡ slice_cmp nat_cmp (name_text l.self) (name_text l.other))

abbrev pub decreases-loop-order : goal.decreases-loop-order
decreases-loop-order l = length l.ours
