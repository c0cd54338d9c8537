use Rattle.std.proofs.Common.{◌≡◌, drop, false}
use Rattle.dns_master.specs.Grammar.{taken_behind}
use Rattle.dns_master.proofs.other.ends_open.Given as goal

abbrev pub invariant-loop-octet : goal.invariant-loop-octet
invariant-loop-octet l = taken_behind false l.raw ≡ taken_behind l.taken (drop l.octet-index l.raw)
