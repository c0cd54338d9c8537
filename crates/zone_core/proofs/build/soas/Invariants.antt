use Rattle.std.proofs.Common.{◌≡◌, ◌≤◌, take, length}
use Rattle.std.specs.List.{filter}
use Rattle.zone_core.specs.Sets.{key_of}
use Rattle.zone_core.specs.Zones.{is_soa}
use Rattle.zone_core.proofs.build.soas.Given as goal

abbrev pub invariant-loop-record : goal.invariant-loop-record
invariant-loop-record l = (l.soas ≡ length (filter (λ r. is_soa (key_of r)) (take l.record-index l.records))) × (l.soas ≤ l.record-index)
