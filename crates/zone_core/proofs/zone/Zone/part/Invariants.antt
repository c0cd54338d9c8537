use Rattle.std.proofs.Common.{◌≡◌, take}
use Rattle.zone_core.specs.Sets.{set_of, part}
use Rattle.zone_core.specs.Parts.{at_names}
use Rattle.zone_core.proofs.zone.Zone.part.Given as goal

abbrev pub invariant-loop-name : goal.invariant-loop-name
invariant-loop-name l = set_of l.records.items ≡ part l.fn.self.records (at_names l.fn.self.origin (take l.name-index l.names))
