use Rattle.std.proofs.Common.{◌≡◌, length, map, All}
use Rattle.std.specs.List.{list_any}
use Rattle.httparse.specs.Spans.{header_bytes, IsHeaderWithin}
use Rattle.office_wire.specs.Fields.{values_of, is_same_text}
use Rattle.office_wire.proofs.field.has_value.Given as goal

abbrev pub invariant-loop-value : goal.invariant-loop-value
invariant-loop-value l = record {
  same : list_any (λ v. is_same_text v l.wanted) (values_of l.name (map (header_bytes l.head) l.rest)) ≡ list_any (λ v. is_same_text v l.wanted) (values_of l.name (map (header_bytes l.head) l.fields));
  within : All (IsHeaderWithin (length l.head)) l.rest;
}

abbrev pub decreases-loop-value : goal.decreases-loop-value
decreases-loop-value l = length l.rest
