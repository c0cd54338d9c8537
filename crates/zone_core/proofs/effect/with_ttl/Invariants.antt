use Rattle.std.proofs.Common.{◌≡◌, ◌++◌, map, take, drop}
use Rattle.zone_core.specs.Nodes.{with_type_ttl}
use Rattle.zone_core.proofs.effect.with_ttl.Given as goal

abbrev pub invariant-loop-i : goal.invariant-loop-i
invariant-loop-i l = l.node.items ≡ map (with_type_ttl l.fn.record_type l.fn.ttl) (take l.i l.fn.node.items) ++ drop l.i l.fn.node.items
