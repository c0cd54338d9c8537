use Rattle.std.proofs.Common.{◌≡◌, ◌++◌, length}
use Rattle.dns_names.specs.Keys.{key_of}
use Rattle.dns_names.proofs.representation.push_key.Given as goal

abbrev pub invariant-loop-label : goal.invariant-loop-label
invariant-loop-label l = l.key.items ++ key_of l.left ≡ l.initial.key.items ++ key_of l.initial.left

abbrev pub decreases-loop-label : goal.decreases-loop-label
decreases-loop-label l = length l.left
