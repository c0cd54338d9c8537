use Rattle.std.proofs.Common.{◌≡◌, true, length, map, codes, All}
use Rattle.httparse.specs.Spans.{header_bytes, IsHeaderWithin}
use Rattle.dns_data.specs.Numbers.{is_number}
use Rattle.office_wire.specs.Fields.{values_of}
use Rattle.office_wire.specs.Lengths.{are_one_number}
use Rattle.office_wire.proofs.length.are_one_number.Given as goal

abbrev pub invariant-loop-value : goal.invariant-loop-value
invariant-loop-value l = record {
  same : are_one_number l.first (values_of (codes "content-length") (map (header_bytes l.head) l.rest)) ≡ are_one_number l.first (values_of (codes "content-length") (map (header_bytes l.head) l.fields));
  number : is_number l.first ≡ true;
  within : All (IsHeaderWithin (length l.head)) l.rest;
}

abbrev pub decreases-loop-value : goal.decreases-loop-value
decreases-loop-value l = length l.rest
