use Rattle.std.proofs.Common.{◌≡◌, ◌++◌, length}
use Rattle.std.specs.List.{flat_map}
use Rattle.dns_names.specs.Spelling.{label_text}
use Rattle.dns_names.proofs.text.plain_labels.Given as goal

abbrev pub invariant-loop-label : goal.invariant-loop-label
invariant-loop-label l = l.text.bytes ++ flat_map label_text l.labels ≡ flat_map label_text l.initial.labels

abbrev pub decreases-loop-label : goal.decreases-loop-label
decreases-loop-label l = length l.labels
