use Rattle.std.proofs.Common.{◌≡◌, ◌++◌, take}
use Rattle.dns_names.specs.Keys.{label_front}
use Rattle.dns_names.proofs.representation.push_label.Given as goal

abbrev pub invariant-loop-octet : goal.invariant-loop-octet
invariant-loop-octet l = l.key.items ≡ l.initial.key.items ++ label_front (take l.octet-index l.label)
