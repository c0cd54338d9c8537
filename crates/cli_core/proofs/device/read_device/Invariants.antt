use Rattle.std.proofs.Common.{◌≡◌, ◌-◌, ◌<◌, length}
use Rattle.std.specs.Vec.{vec_len}
use Rattle.std.specs.Io.KnownBytes.{Consumes}
use Rattle.cli_core.proofs.device.read_device.Given as goal

abbrev pub invariant-loop-reader : goal.invariant-loop-reader
invariant-loop-reader g l = record {
  read : Consumes (g.R.Source.remaining l.initial.reader) (g.R.Source.remaining l.reader) l.input.items;
  fine : g.R.FaultCount.failures l.reader ≡ g.R.FaultCount.failures l.initial.reader;
  room : 0 < vec_len l.piece;
}

abbrev pub decreases-loop-reader : goal.decreases-loop-reader
decreases-loop-reader g l = 4194305 - length l.input.items
