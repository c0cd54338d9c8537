use Rattle.std.proofs.Common.{◌≡◌, ◌+◌, drop, false}
use Rattle.dns_master.specs.Pieces.{scan, ends_item}
use Rattle.dns_master.proofs.scan.plain_len.Given as goal

abbrev pub invariant-loop-i : goal.invariant-loop-i
invariant-loop-i l = l.i + scan ends_item false (drop l.i l.text) ≡ scan ends_item false l.text
