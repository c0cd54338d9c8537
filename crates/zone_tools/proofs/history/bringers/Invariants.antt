use Rattle.std.proofs.Common.{◌≡◌, map, take}
use Rattle.zone_core.specs.Sets.{key_of}
use Rattle.zone_core.specs.Changes.{change_in}
use Rattle.zone_tools.specs.History.{bringer}
use Rattle.zone_tools.proofs.history.bringers.Given as goal

abbrev pub invariant-loop-record : goal.invariant-loop-record
invariant-loop-record l = l.found.items ≡ map (λ r. bringer (map change_in l.changes) (key_of r)) (take l.record-index l.records)
