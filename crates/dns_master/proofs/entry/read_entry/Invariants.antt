use Rattle.std.proofs.Common.{◌≤◌, ◌+◌, length}
use Rattle.dns_master.proofs.ReadLemmas.{Begun}
use Rattle.dns_master.proofs.entry.read_entry.Given as goal

abbrev pub invariant-loop-item : goal.invariant-loop-item
invariant-loop-item l = record {
  room : l.place.depth + length l.place.rest.now ≤ length l.fn.text;
  no_longer : length l.place.rest.now ≤ length l.fn.text;
  begun : Begun l.fn.text l.items.items l.left l.place;
}

abbrev pub decreases-loop-item : goal.decreases-loop-item
decreases-loop-item l = length l.place.rest.now
