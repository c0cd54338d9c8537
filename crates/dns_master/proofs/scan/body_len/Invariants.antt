use Rattle.std.proofs.Common.{◌≡◌, ◌≤◌, ◌+◌, ◌-◌, length, false}
use Rattle.dns_master.specs.Pieces.{scan, is_quote}
use Rattle.dns_master.proofs.scan.body_len.Given as goal

abbrev pub invariant-loop-octet : goal.invariant-loop-octet
invariant-loop-octet l = record {
  within : length l.rest ≤ length l.text;
  so_far : (length l.text - length l.rest) + scan is_quote false l.rest ≡ scan is_quote false l.text;
}

abbrev pub decreases-loop-octet : goal.decreases-loop-octet
decreases-loop-octet l = length l.rest
