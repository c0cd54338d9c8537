use Rattle.std.proofs.Common.{◌≡◌, take}
use Rattle.zone_core.specs.Sets.{Records, set_of, part, at_name}
use Rattle.zone_core.specs.Effects as definitions
use Rattle.zone_core.specs.Nodes.{IsNode}
use Rattle.zone_core.proofs.effect.effects.Given as goal

abbrev pub invariant-loop-operation : goal.invariant-loop-operation
invariant-loop-operation l =
    IsNode l.name l.node.items × ((before : Records) → set_of l.fn.node.items ≡ part before (at_name l.name) → set_of l.node.items ≡ part (definitions.effects l.origin before (take l.operation-index l.operations)) (at_name l.name))
