use Rattle.std.proofs.Common.{◌≡◌, length}
use Rattle.dns_master.proofs.DeviceLemmas.{IsLeft}
use Rattle.dns_master.proofs.device.write_all.Given as goal

abbrev pub invariant-loop-rest : goal.invariant-loop-rest
invariant-loop-rest g l = record {
  left : IsLeft (g.W.Sink.contents l.initial.writer) (g.W.Sink.contents l.writer) l.octets l.rest;
  fine : g.W.FaultCount.failures l.writer ≡ g.W.FaultCount.failures l.initial.writer;
}

abbrev pub decreases-loop-rest : goal.decreases-loop-rest
decreases-loop-rest g l = length l.rest
