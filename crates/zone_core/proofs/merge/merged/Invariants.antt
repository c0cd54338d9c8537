use Rattle.std.proofs.Common.{◌≡◌, ◌++◌}
use Rattle.std.specs.Vec.Iter.{into_iter_items}
use Rattle.zone_core.specs.Merges.{merged}
use Rattle.zone_core.proofs.merge.merged.Given as goal

-- the rows so far, and then what is left
abbrev pub invariant-loop-row : goal.invariant-loop-row
invariant-loop-row l = l.all.items ++ merged (into_iter_items l.row-iterator) l.left.gone.now l.left.come.now ≡ merged l.fn.rows.items l.fn.removed l.fn.added
