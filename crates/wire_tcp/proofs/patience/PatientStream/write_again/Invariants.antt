use Rattle.std.proofs.Common.{◌≡◌}
use Rattle.wire_tcp.specs.Deadlines.{ArePaced}
use Rattle.wire_tcp.specs.Tries.{AreCuts}
use Rattle.wire_tcp.proofs.PatienceLemmas.{IdleWrites}
use Rattle.wire_tcp.proofs.patience.PatientStream.write_again.Given as goal

abbrev pub invariant-cut : goal.invariant-cut
invariant-cut g l = record {
  idle : IdleWrites (g.P.Peer.flow l.fn.self.peer) (g.P.Peer.flow l.self.peer);
  paced : ArePaced l.fn.self.pace l.fn.self.running l.self.running (g.P.Peer.times l.fn.self.peer).waits (g.P.Peer.times l.self.peer).waits;
  cuts : AreCuts l.counter (g.P.Peer.times l.fn.self.peer).waits (g.P.Peer.times l.self.peer).waits;
  ages : (g.P.Peer.times l.self.peer).ages ≡ (g.P.Peer.times l.fn.self.peer).ages;
  pace : l.self.pace ≡ l.fn.self.pace;
  reads : l.self.reads ≡ l.fn.self.reads;
  writes : l.self.writes ≡ l.fn.self.writes;
}
