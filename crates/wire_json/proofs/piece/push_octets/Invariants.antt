use Rattle.std.proofs.Common.{◌≡◌, ◌++◌, ◌≤◌, take}
use Rattle.std.specs.Vec.{vec_capacity}
use Rattle.wire_json.specs.Json.{escaped}
use Rattle.wire_json.proofs.piece.push_octets.Given as goal

abbrev pub invariant-loop-octet : goal.invariant-loop-octet
invariant-loop-octet l = record {
  pushed : l.out.items ≡ l.fn.out.items ++ escaped (take l.octet-index l.text);
  room : vec_capacity l.fn.out ≤ vec_capacity l.out;
}
