use Rattle.std.proofs.Common.{take}
use Rattle.zone_core.specs.Sets.{set_of, part}
use Rattle.zone_core.specs.Parts.{at_names}
use Rattle.zone_core.specs.Rebuilt.{AreAllOf}
use Rattle.store_cache.proofs.cached_zone.CachedZone.copied_at.Given as goal

-- those at the origin and at the names so far
abbrev pub invariant-loop-name : goal.invariant-loop-name
invariant-loop-name l = AreAllOf l.records.items (part (set_of l.self.rows) (at_names l.self.origin (take l.name-index l.names)))
