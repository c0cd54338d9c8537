use Rattle.std.proofs.Common.{◌≡◌, take}
use Rattle.std.specs.List.{filter}
use Rattle.zone_core.specs.Sets.{listing}
use Rattle.zone_tools.specs.LargeSets.{begins_large}
use Rattle.zone_tools.proofs.large_record_sets.large_sets.Given as goal

abbrev pub invariant-loop-record : goal.invariant-loop-record
invariant-loop-record l = l.found.items ≡ filter (begins_large l.most (listing l.zone.records)) (take l.record-index l.record-items)
