use Rattle.std.proofs.Common.{◌≡◌, drop}
use Rattle.dns_master.specs.OtherTypes.{last_octet}
use Rattle.dns_master.proofs.other_type.last_octet.Given as goal

abbrev pub invariant-loop-octet : goal.invariant-loop-octet
invariant-loop-octet l = last_octet 0 l.text ≡ last_octet l.last (drop l.octet-index l.text)
