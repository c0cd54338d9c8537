use Rattle.std.proofs.Common.{◌≡◌, take, map}
use Rattle.zone_core.specs.Views.{set_ttl}
use Rattle.zone_core.proofs.build.set_ttls.Given as goal

abbrev pub invariant-loop-i : goal.invariant-loop-i
invariant-loop-i l = l.ttls.items ≡ map (set_ttl l.records) (take l.i l.records)
