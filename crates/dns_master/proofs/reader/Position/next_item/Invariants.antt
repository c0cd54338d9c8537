use Rattle.std.proofs.Common.{◌≡◌, ◌≤◌, ◌+◌, length}
use Rattle.dns_master.specs.Entries.{from}
use Rattle.dns_master.specs.Reader.{from_place}
use Rattle.dns_master.proofs.reader.Position.next_item.Given as goal

abbrev pub invariant-loop-octet : goal.invariant-loop-octet
invariant-loop-octet l = record {
  room : l.depth + length l.rest ≤ l.initial.self.depth + length l.initial.self.rest.now;
  shorter : length l.rest ≤ length l.initial.self.rest.now;
  so_far : from l.depth l.outermost l.rest ≡ from_place l.initial.self;
}

abbrev pub decreases-loop-octet : goal.decreases-loop-octet
decreases-loop-octet l = length l.rest
