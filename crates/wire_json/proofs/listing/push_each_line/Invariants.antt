use Rattle.std.proofs.Common.{◌≡◌, ◌++◌, ◌+◌, ◌≤◌, length, map, take, drop}
use Rattle.std.specs.Vec.{vec_capacity}
use denote.Text.{Utf8}
use denote.Shadow.{shadow}
use Rattle.dns_master.specs.ZoneText.{records_text}
use Rattle.wire_json.specs.Json.{listed}
use Rattle.wire_json.specs.Replies.{line_value}
use Rattle.wire_json.proofs.listing.push_each_line.Given as goal

abbrev pub invariant-loop-line : goal.invariant-loop-line
invariant-loop-line l = record {
  text : shadow (Utf8 l.rest);
  pushed : l.out.items ≡ l.fn.out.items ++ listed (map line_value (take l.number l.lines));
  rest : l.rest ≡ records_text (drop l.number l.lines);
  few : l.number ≤ length l.lines;
  fits : l.number + length l.rest ≤ length (records_text l.lines);
  room : vec_capacity l.fn.out ≤ vec_capacity l.out;
}

abbrev pub decreases-loop-line : goal.decreases-loop-line
decreases-loop-line l = length l.rest
