use Rattle.std.proofs.Common.{◌≡◌, take}
use Rattle.zone_core.specs.Views.{given_ttls}
use Rattle.zone_core.proofs.build.with_ttls.Given as goal

abbrev pub invariant-loop-i : goal.invariant-loop-i
invariant-loop-i l = l.records.items ≡ given_ttls l.fn.records.items (take l.i l.ttls)
