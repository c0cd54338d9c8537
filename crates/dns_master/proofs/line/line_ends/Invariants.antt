use Rattle.std.proofs.Common.{◌≡◌, ◌≤◌, ◌+◌, length}
use Rattle.dns_master.specs.Lines.{line_ends}
use Rattle.dns_master.proofs.line.line_ends.Given as goal

abbrev pub invariant-loop-octet : goal.invariant-loop-octet
invariant-loop-octet l = record {
  room : l.count + length l.rest ≤ length l.text;
  so_far : l.count + line_ends l.rest ≡ line_ends l.text;
}

abbrev pub decreases-loop-octet : goal.decreases-loop-octet
decreases-loop-octet l = length l.rest
