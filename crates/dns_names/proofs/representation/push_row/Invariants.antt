use Rattle.std.proofs.Common.{◌≡◌, ◌++◌, length}
use Rattle.dns_names.specs.Rows.{row_of}
use Rattle.dns_names.proofs.representation.push_row.Given as goal

abbrev pub invariant-loop-label : goal.invariant-loop-label
invariant-loop-label l = l.row.items ++ row_of l.left ≡ l.initial.row.items ++ row_of l.initial.left

abbrev pub decreases-loop-label : goal.decreases-loop-label
decreases-loop-label l = length l.left
