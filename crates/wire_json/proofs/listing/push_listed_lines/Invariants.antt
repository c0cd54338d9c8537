use Rattle.std.proofs.Common.{◌≡◌, ◌++◌, ◌≤◌, map, take}
use Rattle.std.specs.Vec.{vec_capacity}
use Rattle.wire_json.specs.Json.{listed}
use Rattle.wire_json.specs.Replies.{line_value}
use Rattle.wire_json.proofs.listing.push_listed_lines.Given as goal

abbrev pub invariant-loop-i : goal.invariant-loop-i
invariant-loop-i l = record {
  pushed : l.out.items ≡ l.fn.out.items ++ listed (map line_value (take l.i l.records));
  room : vec_capacity l.fn.out ≤ vec_capacity l.out;
}
