use Rattle.std.proofs.Common.{◌≡◌, ◌++◌, ◌≤◌, take}
use Rattle.std.specs.Vec.{vec_capacity}
use Rattle.dns_master.specs.ZoneText.{records_text}
use Rattle.wire_json.proofs.listing.push_file_lines.Given as goal

abbrev pub invariant-loop-rr : goal.invariant-loop-rr
invariant-loop-rr l = record {
  pushed : l.out.items ≡ l.fn.out.items ++ records_text (take l.rr-index l.records);
  room : vec_capacity l.fn.out ≤ vec_capacity l.out;
}
