use Rattle.std.proofs.Common.{take}
use Rattle.serde_json.specs.View.{items_view}
use Rattle.wire_json.specs.Bodies.{AreItems, IsOperationBody}
use Rattle.wire_json.specs.Reading.{operation_in}
use Rattle.wire_json.proofs.ListLemmas.{Read}
use Rattle.wire_json.proofs.item.read_operations.Given as goal

abbrev pub invariant-loop-item : goal.invariant-loop-item
invariant-loop-item l = record {
  read : Read operation_in l.items l.operations.items l.item-index;
  found : AreItems IsOperationBody l.operations.items (items_view (take l.item-index l.items));
}
