use Rattle.std.proofs.Common.{◌≡◌, ◌-◌, Some}
use Rattle.office_model.specs.States.{Held, State}
use Rattle.office_core.specs.Seen.{IsSeenUpTo}
use Rattle.office_core.proofs.changes.seen_behind.Given as goal

abbrev pub invariant-pieces : goal.invariant-pieces
invariant-pieces g l = record {
  grants : l.grants ≡ l.fn.grants;
  up : g.T.ZoneTable.is_honest l.table → (s : State) (held : Held) → g.T.ZoneTable.holds l.fn.table s → s.zones l.origin ≡ Some held → IsSeenUpTo l.fn.grants l.count held.changes l.seen;
  same : (s : State) → g.T.ZoneTable.holds l.fn.table s → g.T.ZoneTable.holds l.table s;
  only : g.T.ZoneTable.is_honest l.table → (s : State) → g.T.ZoneTable.holds l.table s → g.T.ZoneTable.holds l.fn.table s;
  crash : (s t : State) → g.T.ZoneTable.leaves l.fn.table s t → g.T.ZoneTable.leaves l.table s t;
  honest : g.T.ZoneTable.is_honest l.table → g.T.ZoneTable.is_honest l.fn.table;
  counts : g.T.ZoneTable.failures l.table ≡ g.T.ZoneTable.failures l.fn.table;
}

-- what a number of 32 bits can still say
abbrev pub decreases-pieces : goal.decreases-pieces
decreases-pieces g l = 4294967295 - l.seen.read
