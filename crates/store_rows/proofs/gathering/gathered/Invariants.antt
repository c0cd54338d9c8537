use Rattle.std.proofs.Common.{◌≡◌, map}
use Rattle.std.specs.List.{fold}
use Rattle.std.specs.Vec.Iter.{into_iter_items}
use Rattle.zone_core.specs.Changes.{change_in}
use Rattle.store_rows.specs.ChangeRows.{placed, gathered}
use Rattle.store_rows.proofs.gathering.gathered.Given as goal

-- what is gathered so far, with what is left
abbrev pub invariant-loop-one : goal.invariant-loop-one
invariant-loop-one l = fold placed (map change_in l.changes.items) (into_iter_items l.one-iterator) ≡ gathered l.fn.changed.items
