use Rattle.std.proofs.Common.{◌≡◌, map, take}
use Rattle.zone_core.specs.Changes.{change_in}
use Rattle.office_core.proofs.memory.copied_changes.Given as goal

abbrev pub invariant-loop-change : goal.invariant-loop-change
invariant-loop-change l = map change_in l.all.items ≡ map change_in (take l.change-index l.changes)
