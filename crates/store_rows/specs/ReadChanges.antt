-- Changes that were read of rows.
use Rattle.std.specs.Prelude.{◌≡◌, ℤ, List, Some, IsPermutation}
use Rattle.office_model.specs.States.{Held, State}
use Rattle.store_sql.specs.Rows.{ChangeRowOf, RowsOf}
use Rattle.store_rows.specs.declared.zone_changes.ZoneChanges.{ZoneChanges}
use Rattle.store_rows.specs.ChangeRows.{gathered}
use Rattle.store_rows.specs.Contents.{AreOfState}

-- In each state that has these rows of changes, in some order, a zone of this origin has the changes that are gathered of these.
abbrev pub Tells : List ChangeRowOf → ZoneChanges → Type 0
Tells rows zone =
    (version : ℤ) (all : RowsOf) (s : State) (held : Held) → AreOfState version all s → IsPermutation rows all.changes → s.zones zone.origin ≡ Some held → gathered zone.changed.items ≡ held.changes
