use Rattle.std.proofs.Common.{◌≡◌, ◌≤◌, ◌+◌, ◌-◌, length, false}
use Rattle.dns_master.specs.Pieces.{scan, ends_item, Stopped}
use Rattle.dns_master.proofs.scan.run_len.Given as goal

abbrev pub invariant-loop-octet : goal.invariant-loop-octet
invariant-loop-octet l = record {
  within : length l.rest ≤ length l.text;
  so_far : (length l.text - length l.rest) + scan ends_item false l.rest ≡ scan ends_item false l.text;
  stopped : Stopped l.rest;
}

abbrev pub decreases-loop-octet : goal.decreases-loop-octet
decreases-loop-octet l = length l.rest
