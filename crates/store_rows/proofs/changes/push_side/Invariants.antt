use Rattle.std.proofs.Common.{◌≡◌, ◌++◌, ℕ, map, take}
use Rattle.std.specs.Prelude.{pos}
use Rattle.store_rows.specs.ChangeRows.{row_on_side}
use Rattle.store_rows.proofs.changes.push_side.Given as goal

abbrev pub invariant-loop-row : goal.invariant-loop-row
invariant-loop-row l = (n : ℕ) → l.number ≡ pos n → l.rows.items ≡ l.initial.rows.items ++ map (row_on_side n l.side) (take l.row-index l.records)
