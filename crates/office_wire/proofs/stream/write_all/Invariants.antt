use Rattle.std.proofs.Common.{◌≡◌, length}
use Rattle.office_wire.specs.Order.{moment}
use Rattle.office_wire.proofs.OrderLemmas.{IsLeft}
use Rattle.office_wire.proofs.stream.write_all.Given as goal

abbrev pub invariant-loop-rest : goal.invariant-loop-rest
invariant-loop-rest g l = record {
  left : IsLeft (moment (g.S.Stream.flow l.initial.stream)) (moment (g.S.Stream.flow l.stream)) l.octets l.rest;
  fine : g.S.Stream.failed_writes l.stream ≡ g.S.Stream.failed_writes l.initial.stream;
  same : (g.S.Stream.flow l.stream).remaining ≡ (g.S.Stream.flow l.initial.stream).remaining;
  still : g.S.Stream.failed_reads l.stream ≡ g.S.Stream.failed_reads l.initial.stream;
  kept : g.S.Stream.keeps l.initial.stream l.stream;
}

abbrev pub decreases-loop-rest : goal.decreases-loop-rest
decreases-loop-rest g l = length l.rest
