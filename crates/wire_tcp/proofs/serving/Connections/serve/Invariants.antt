use Rattle.std.proofs.Common.{◌≡◌, ◌+◌, List, Option, length}
use Rattle.std.specs.Io.KnownBytes.{Appends}
use Rattle.office_model.specs.Tables.{Keeps, Kept}
use Rattle.office_wire.specs.declared.serve_fault.ServeFault.{ServeFault}
use Rattle.office_wire.specs.Responders.{rules_of, Fits}
use Rattle.wire_tcp.specs.Limits.{limits_in}
use Rattle.wire_tcp.specs.Connections.{Visit, AreVisits, ends, ended_lines, AreTraced}
use Rattle.wire_tcp.proofs.serving.Connections.serve.Given as goal

abbrev pub invariant-accepted : goal.invariant-accepted
invariant-accepted g l = record {
  honest : g.T.ZoneTable.is_honest l.table → g.T.ZoneTable.is_honest l.fn.table;
  served : g.T.ZoneTable.is_honest l.table → (s : Kept) → Keeps (g.T.ZoneTable.holds l.fn.table) (g.T.ZoneTable.leaves l.fn.table) s
      → (visits : List Visit) × (t : Kept) × (Keeps (g.T.ZoneTable.holds l.table) (g.T.ZoneTable.leaves l.table) t × Fits l.responder t.state)
      × AreVisits (record { holds = g.T.ZoneTable.holds; leaves = g.T.ZoneTable.leaves; failures = g.T.ZoneTable.failures; fault = g.D.Diagnosis.fault l.self.diagnosis.now; gives = g.H.Listener.gives; ends = g.H.Listener.ends; flow = g.H.Peer.Peer.flow; times = g.H.Peer.Peer.times })
      l.self.policy.now (limits_in l.self.patience l.self.longest) visits (record { table = l.fn.table; kept = s; listener = l.fn.listener }) (record { table = l.table; kept = t; listener = l.listener })
      × (length visits ≡ l.counter) × Appends (g.W.Sink.contents l.fn.writer) (g.W.Sink.contents l.writer) (ended_lines (ends visits))
      × AreTraced visits (record { old = g.E.Sink.contents l.fn.trace; new = g.E.Sink.contents l.trace; before = g.E.FaultCount.failures l.fn.trace; after = g.E.FaultCount.failures l.trace });
  written : (ends : List (Option ServeFault)) × (length ends ≡ l.counter) × Appends (g.W.Sink.contents l.fn.writer) (g.W.Sink.contents l.writer) (ended_lines ends);
  fine : g.W.FaultCount.failures l.writer ≡ g.W.FaultCount.failures l.fn.writer;
  rules : rules_of l.responder ≡ l.self.policy.now;
  taken : g.H.Listener.taken l.listener ≡ g.H.Listener.taken l.fn.listener + l.counter;
  same : g.H.Listener.cut l.listener → g.H.Listener.cut l.fn.listener;
}
