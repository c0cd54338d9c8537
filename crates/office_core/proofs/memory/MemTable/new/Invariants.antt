use Rattle.std.proofs.Common.{◌≡◌, ◌++◌, map}
use Rattle.std.specs.Vec.Iter.{into_iter_items}
use Rattle.office_core.specs.Memory.{EachIsZone}
use Rattle.office_core.proofs.MemoryLemmas.{is_fresh, fresh}
use Rattle.office_core.proofs.memory.MemTable.new.Given as goal

-- the zones so far, without changes, and those that are left
abbrev pub invariant-loop-zone : goal.invariant-loop-zone
invariant-loop-zone l = record {
  zones : map is_fresh l.held.items ++ map fresh (into_iter_items l.zone-iterator) ≡ map fresh l.fn.zones.items;
  are_zones : EachIsZone l.held.items;
}
