use Rattle.std.proofs.Common.{◌≡◌, take}
use Rattle.sqlite.specs.Held.{state}
use Rattle.sqlite.specs.State.{HasCleanDisk}
use Rattle.store_sql.specs.Holds.{IsGoing, Part}
use Rattle.store_sql.specs.Statements.{without_records}
use Rattle.store_sql.proofs.batch.delete_records.Given as goal

abbrev pub invariant-loop-gone : goal.invariant-loop-gone
invariant-loop-gone g l = record {
  name : l.tx.conn.ghost_name ≡ l.initial.tx.conn.ghost_name;
  part : Part (state g.S.Store l.initial.tx.conn.now) (state g.S.Store l.tx.conn.now) (without_records (take l.gone-index l.removed));
  going : IsGoing (state g.S.Store l.initial.tx.conn.now) → HasCleanDisk (state g.S.Store l.tx.conn.now) → IsGoing (state g.S.Store l.tx.conn.now);
}
