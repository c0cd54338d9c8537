-- The order in which records are listed: by owner in canonical order (RFC 4034 section 6.1), at one owner SOA first and then
-- by type number, and then by the octets of the data's text.
use Rattle.std.specs.Prelude.{ℕ, List}
use Rattle.std.specs.Ordering.{nat_cmp, on, then_cmp}
use Rattle.std.specs.declared.cmp.Ordering.{Ordering}
use Rattle.std.specs.Cmp.{IsTotalOrder, on_total, then_total, nat_cmp_total}
use Rattle.std.specs.Cmp.Lexicographic.{slice_cmp, nat_list_cmp_total}
use Rattle.dns_names.specs.Order.{canonical_cmp, canonical_total}
use Rattle.dns_data.specs.declared.record.Record.{Record}
use Rattle.dns_data.specs.declared.rdata.Data.{Data}
use Rattle.dns_data.specs.declared.record_type.RecordType.{RecordType}
use Rattle.dns_data.specs.declared.record_type.RecordType.TheVariants as types
use Rattle.dns_data.specs.Rdata.{type_of}
use Rattle.dns_data.specs.Text.{data_text}
use Rattle.dns_data.specs.Types.{type_number}

-- the place of a type among the records of one owner
abbrev pub rank_of : RecordType → ℕ
rank_of types.Soa = 0
rank_of record_type = type_number record_type

-- what a record is apart from its TTL: its owner, the place of its type, and the text of its data
abbrev pub Key : Type 0
Key = List (List ℕ) × ℕ × List ℕ

abbrev pub key_of : Record → Key
key_of r = (r.owner, rank_of (type_of r.rdata), data_text r.rdata)

abbrev pub key_cmp : Key → Key → Ordering
key_cmp = then_cmp (then_cmp (on (λ k. k.0) canonical_cmp) (on (λ k. k.1) nat_cmp)) (on (λ k. k.2) (slice_cmp nat_cmp))

pub key_total : IsTotalOrder key_cmp
key_total = then_total (then_total (on_total (λ k. k.0) canonical_total) (on_total (λ k. k.1) nat_cmp_total)) (on_total (λ k. k.2) nat_list_cmp_total)

abbrev pub record_order : Record → Record → Ordering
record_order = on key_of key_cmp

pub record_order_total : IsTotalOrder record_order
record_order_total = on_total key_of key_total

-- the order of data: by the place of their type, and then by the octets of their text
abbrev pub data_order : Data → Data → Ordering
data_order = then_cmp (on (λ d. rank_of (type_of d)) nat_cmp) (on data_text (slice_cmp nat_cmp))
