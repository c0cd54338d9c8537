use Rattle.std.proofs.Common.{◌≡◌, [], List, ℕ, false}
use Rattle.sqlite.specs.State.{HasCleanDisk, IsUnchanged, Survives}
use Rattle.sqlite.specs.Held.{state}
use Rattle.sqlite.specs.Given.{HasGiven}
use Rattle.store_sql.specs.Taken.{AreTaken}
use Rattle.store_sql.proofs.scans.take_each.Given as goal

abbrev pub invariant-rows : goal.invariant-rows
invariant-rows g l =
    let old = state g.S.Store l.fn.rows.conn.now in
    let now = state g.S.Store l.rows.conn.now in
    record {
      same_reference : l.rows.conn.ghost_name ≡ l.fn.rows.conn.ghost_name;
      survives : Survives old now (λ _. ⊥);
      ended : l.rows.conn.now.in_transaction ≡ false;
      same : HasCleanDisk now → IsUnchanged old now;
      taken : (given : _) × AreTaken g.R.FromRow.stored g.C.RowCheck.has_taken l.fn.check l.check given l.rowids.items
          × (HasCleanDisk now → (sql : List ℕ) → HasGiven g.S.Store sql [] l.fn.rows.conn.now [] → HasGiven g.S.Store sql [] l.rows.conn.now given);
    }
