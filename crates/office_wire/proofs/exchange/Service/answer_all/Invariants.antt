use Rattle.std.proofs.Common.{length, ◌≡◌}
use Rattle.office_model.specs.Tables.{Keeps, Kept}
use Rattle.office_core.specs.Bookmarks.{AreBookmarks}
use Rattle.office_wire.specs.Order.{moment}
use Rattle.office_wire.specs.Serving.{mark, IsCurrent}
use Rattle.office_wire.proofs.exchange.Service.answer_all.Given as goal

abbrev pub invariant-turns : goal.invariant-turns
invariant-turns g l = record {
  honest : g.T.ZoneTable.is_honest l.table → g.T.ZoneTable.is_honest l.fn.table;
  served : g.T.ZoneTable.is_honest l.table → (s : Kept) → Keeps (g.T.ZoneTable.holds l.fn.table) (g.T.ZoneTable.leaves l.fn.table) s × AreBookmarks l.fn.self.policy.now s.state l.fn.self.bookmarks
      → (t : Kept) × (Keeps (g.T.ZoneTable.holds l.table) (g.T.ZoneTable.leaves l.table) t × AreBookmarks l.fn.self.policy.now t.state l.self.bookmarks)
      × IsCurrent l.fn.self.policy.now (mark s (g.T.ZoneTable.failures l.fn.table) l.fn.self.servfails) l.fn.workspace.requests l.workspace.requests (moment (g.S.Stream.flow l.fn.stream)) (moment (g.S.Stream.flow l.stream)) (g.D.Deadline.asked l.fn.deadline) (g.D.Deadline.asked l.deadline) (mark t (g.T.ZoneTable.failures l.table) l.self.servfails);
  unread : (g.S.Stream.flow l.stream).remaining ≡ (g.S.Stream.flow l.fn.stream).remaining;
  still : g.S.Stream.failed_reads l.stream ≡ g.S.Stream.failed_reads l.fn.stream;
  same : g.S.Stream.failed_writes l.stream ≡ g.S.Stream.failed_writes l.fn.stream;
  policy : l.self.policy ≡ l.fn.self.policy;
  kept : g.S.Stream.keeps l.fn.stream l.stream;
  passed : g.D.Deadline.passed l.deadline ≡ g.D.Deadline.passed l.fn.deadline;
}

abbrev pub decreases-turns : goal.decreases-turns
decreases-turns g l = length l.workspace.requests
