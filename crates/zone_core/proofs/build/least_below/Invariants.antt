use Rattle.std.proofs.Common.{◌≡◌, drop}
use Rattle.zone_core.specs.Zones as zones
use Rattle.zone_core.proofs.build.least_below.Given as goal

abbrev pub invariant-loop-record : goal.invariant-loop-record
invariant-loop-record l = zones.least_below l.fn.ttl l.records ≡ zones.least_below l.least (drop l.record-index l.records)
