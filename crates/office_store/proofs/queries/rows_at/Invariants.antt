use Rattle.std.proofs.Common.{◌≢◌, false, [], ◌∷◌, map, take}
use Rattle.sqlite.specs.Held.{state}
use Rattle.sqlite.specs.State.{HasCleanDisk, Shows}
use Rattle.dns_names.specs.Keys.{key_of}
use Rattle.store_sql.specs.Rows.{RowsOf}
use Rattle.store_sql.specs.Lookups.{records_at}
use Rattle.store_sql.specs.Holds.{Holds, OnlyAsks}
use Rattle.store_rows.specs.PartRows.{AreRowsAt}
use Rattle.office_store.proofs.queries.rows_at.Given as goal

abbrev pub invariant-loop-name : goal.invariant-loop-name
invariant-loop-name g l = record {
  asks : OnlyAsks (state g.S.Store l.fn.conn) (state g.S.Store l.conn);
  same : HasCleanDisk (state g.S.Store l.conn) → Shows (state g.S.Store l.fn.conn) (state g.S.Store l.conn) (state g.S.Store l.fn.conn).now (state g.S.Store l.fn.conn).now false;
  stands : HasCleanDisk (state g.S.Store l.conn) → (all : RowsOf) → Holds (state g.S.Store l.fn.conn) all → records_at l.text (key_of l.origin) all.records ≢ [];
  found : HasCleanDisk (state g.S.Store l.conn) → (all : RowsOf) → Holds (state g.S.Store l.fn.conn) all → AreRowsAt l.text (map key_of (l.origin ∷ take l.name-index l.names)) all.records l.rows.items;
}
