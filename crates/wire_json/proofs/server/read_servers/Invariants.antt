use Rattle.std.proofs.Common.{map, take}
use Rattle.serde_json.specs.View.{items_view}
use Rattle.wire_json.specs.Bodies.{AreItems, IsServerBody}
use Rattle.wire_json.specs.Delegating.{server_of}
use Rattle.wire_json.specs.Reading.{server_in}
use Rattle.wire_json.proofs.ListLemmas.{Read}
use Rattle.wire_json.proofs.server.read_servers.Given as goal

abbrev pub invariant-loop-item : goal.invariant-loop-item
invariant-loop-item l = record {
  read : Read server_in l.items (map server_of l.servers.items) l.item-index;
  found : AreItems IsServerBody (map server_of l.servers.items) (items_view (take l.item-index l.items));
}
