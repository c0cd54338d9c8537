use Rattle.std.proofs.Common.{take}
use Rattle.serde_json.specs.View.{items_view}
use Rattle.wire_json.specs.Bodies.{AreItems, IsPrerequisiteBody}
use Rattle.wire_json.specs.Reading.{prerequisite_in}
use Rattle.wire_json.proofs.ListLemmas.{Read}
use Rattle.wire_json.proofs.item.read_prerequisites.Given as goal

abbrev pub invariant-loop-item : goal.invariant-loop-item
invariant-loop-item l = record {
  read : Read prerequisite_in l.items l.prerequisites.items l.item-index;
  found : AreItems IsPrerequisiteBody l.prerequisites.items (items_view (take l.item-index l.items));
}
