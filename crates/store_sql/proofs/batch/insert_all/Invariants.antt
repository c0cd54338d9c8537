use Rattle.std.proofs.Common.{◌≡◌, take}
use Rattle.sqlite.specs.Held.{state}
use Rattle.sqlite.specs.State.{HasCleanDisk}
use Rattle.store_sql.specs.Holds.{IsGoing, Part}
use Rattle.store_sql.specs.Statements.{with_each}
use Rattle.store_sql.proofs.batch.insert_all.Given as goal

abbrev pub invariant-loop-one : goal.invariant-loop-one
invariant-loop-one g l = record {
  name : l.tx.conn.ghost_name ≡ l.initial.tx.conn.ghost_name;
  part : Part (state g.S.Store l.initial.tx.conn.now) (state g.S.Store l.tx.conn.now) (with_each g.T.Insert.with (take l.one-index l.all));
  going : IsGoing (state g.S.Store l.initial.tx.conn.now) → HasCleanDisk (state g.S.Store l.tx.conn.now) → IsGoing (state g.S.Store l.tx.conn.now);
}
