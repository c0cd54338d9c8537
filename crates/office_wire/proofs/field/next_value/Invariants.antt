use Rattle.std.proofs.Common.{◌≡◌, ◌≤◌, length, map, All}
use Rattle.httparse.specs.Spans.{header_bytes, IsHeaderWithin}
use Rattle.office_wire.specs.Fields.{values_of}
use Rattle.office_wire.proofs.field.next_value.Given as goal

abbrev pub invariant-loop-rest : goal.invariant-loop-rest
invariant-loop-rest l = record {
  same : values_of l.name (map (header_bytes l.head) l.rest) ≡ values_of l.name (map (header_bytes l.head) l.fields);
  within : All (IsHeaderWithin (length l.head)) l.rest;
  fewer : length l.rest ≤ length l.fields;
}

abbrev pub decreases-loop-rest : goal.decreases-loop-rest
decreases-loop-rest l = length l.rest
