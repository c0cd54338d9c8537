use Rattle.std.proofs.Common.{◌≡◌, ◌++◌, List}
use Rattle.std.specs.Slice.Iter.{chunks_rest, chunks_size}
use Rattle.sqlite.specs.Held.{state}
use Rattle.sqlite.specs.State.{HasCleanDisk}
use Rattle.store_sql.specs.Holds.{IsGoing, Part}
use Rattle.store_sql.specs.Statements.{with_each}
use Rattle.store_sql.proofs.batch.insert_rows.Given as goal

abbrev pub invariant-loop-some : goal.invariant-loop-some
invariant-loop-some g l = record {
  can : (goal.iterator-loop-some g).can_next l.some-iterator;
  ends : (goal.iterator-loop-some g).is_finite l.some-iterator;
  size : chunks_size l.some-iterator ≡ 3;
  name : l.tx.conn.ghost_name ≡ l.initial.tx.conn.ghost_name;
  part : (done : List _) × (done ++ chunks_rest l.some-iterator ≡ l.all) × Part (state g.S.Store l.initial.tx.conn.now) (state g.S.Store l.tx.conn.now) (with_each g.T.Insert.with done);
  going : IsGoing (state g.S.Store l.initial.tx.conn.now) → HasCleanDisk (state g.S.Store l.tx.conn.now) → IsGoing (state g.S.Store l.tx.conn.now);
}
