use Rattle.std.proofs.Common.{◌≡◌, take}
use Rattle.std.specs.List.{flat_map}
use Rattle.std.specs.Io.KnownBytes.{Appends}
use Rattle.wire_tcp.proofs.trace.write_texts.Given as goal

abbrev pub invariant-loop-text : goal.invariant-loop-text
invariant-loop-text g l = record {
  sent : Appends (g.W.Sink.contents l.fn.writer) (g.W.Sink.contents l.writer) (flat_map (λ text. text.now) (take l.text-index l.texts));
  fine : g.W.FaultCount.failures l.writer ≡ g.W.FaultCount.failures l.fn.writer;
}
