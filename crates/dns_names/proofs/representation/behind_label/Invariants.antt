use Rattle.std.proofs.Common.{◌≡◌, length}
use Rattle.dns_names.specs.Rows.{behind_label}
use Rattle.dns_names.proofs.representation.behind_label.Given as goal

abbrev pub invariant-loop-octet : goal.invariant-loop-octet
invariant-loop-octet l = behind_label l.rest ≡ behind_label l.key

abbrev pub decreases-loop-octet : goal.decreases-loop-octet
decreases-loop-octet l = length l.rest
