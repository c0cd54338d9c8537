-- Zones as rows of records in record order.
use Rattle.std.specs.Prelude.{◌≡◌, ◌<◌, ◌≤◌, slice_index, slice_index_or, ℕ, List, [], ◌∷◌, length, map, take, drop, Bool, true, false, not, ◌&&◌, ◌||◌, ◌==◌}
use Rattle.std.specs.List.{All, filter, list_any, range_with_len, slice_range}
use Rattle.std.specs.List.Sorted.{IsPermutation}
use Rattle.std.specs.declared.cmp.Ordering.{Ordering}
use Rattle.std.specs.Ordering.{nat_cmp, ordering_then}
use Rattle.dns_names.specs.Order.{canonical_cmp, same_name}
use Rattle.dns_data.specs.declared.record.Record.{Record}
use Rattle.dns_data.specs.declared.record_type.RecordType.{RecordType}
use Rattle.dns_data.specs.Rdata.{type_of}
use Rattle.zone_core.specs.declared.sorting.KeyPrefix.{KeyPrefix}
use Rattle.zone_core.specs.KeyPrefixes.{no_prefix, prefix_order}
use Rattle.zone_core.specs.Sets.{key_of, rank_of, record_order, set_of, InOrder}
use Rattle.zone_core.specs.Zones.{ZoneOf, IsZone, is_soa, is_cname, beside, least_ttl}

-- the order of a record to the records of a set: by owner, and then by type
abbrev pub set_order : List (List ℕ) → RecordType → Record → Ordering
set_order name record_type r = ordering_then (canonical_cmp r.owner name) (nat_cmp (rank_of (type_of r.rdata)) (rank_of record_type))

-- the records that pass a test are those from a place of a row up to another, and no others
pub record IsRun (chosen : Record → Bool) (rs : List Record) (start end : ℕ) : Type 0 where
  pub order : start ≤ end
  pub within : end ≤ length rs
  pub before : All (λ r. chosen r ≡ false) (take start rs)
  pub here : All (λ r. chosen r ≡ true) (slice_range rs start end)
  pub behind : All (λ r. chosen r ≡ false) (drop end rs)

-- the zone of an origin and records
abbrev pub zone_in : List (List ℕ) → List Record → ZoneOf
zone_in origin rs = record { origin = origin; records = set_of rs }

-- records in record order, which make a zone of their origin
pub record AreOfZone (origin : List (List ℕ)) (rs : List Record) : Type 0 where
  pub order : InOrder rs
  pub zone : IsZone (zone_in origin rs)

-- ---- a zone that is changed

-- whether the serial goes one further: something is removed or added, and no SOA is (RFC 2136 section 3.6)
abbrev pub advances : List Record → List Record → Bool
advances removed added = not ((length removed == 0) && (length added == 0)) && not (list_any (λ r. is_soa (key_of r)) added)

-- ---- a zone that is built

-- two CNAME records of one name
abbrev pub are_two_cnames : Record → Record → Bool
are_two_cnames r s = is_cname (key_of r) && beside (key_of r) (key_of s)

-- a CNAME and another record of its name
abbrev pub are_cname_and_other : Record → Record → Bool
are_cname_and_other r s = (is_cname (key_of r) && not (is_cname (key_of s)) || is_cname (key_of s) && not (is_cname (key_of r))) && same_name s.owner r.owner

-- the least TTL of the set of a record
abbrev pub set_ttl : List Record → Record → ℕ
set_ttl rs r = least_ttl (filter (λ s. beside (key_of r) (key_of s)) rs)

-- records with TTLs in the place of their own
abbrev pub given_ttls : List Record → List ℕ → List Record
given_ttls [] ttls = []
given_ttls (r ∷ rs) [] = r ∷ rs
given_ttls (r ∷ rs) (ttl ∷ ttls) = record r { ttl = ttl } ∷ given_ttls rs ttls

-- each record with the least TTL of its set
abbrev pub min_ttl_rows : List Record → List Record
min_ttl_rows rs = given_ttls rs (map (set_ttl rs) rs)

-- ---- records that are put in order

-- the order of two positions: by the prefixes there, then by the records, then by the positions
abbrev pub position_order : List Record → List KeyPrefix → Record → ℕ → ℕ → Ordering
position_order rs prefixes other p q =
    ordering_then (prefix_order (slice_index_or prefixes p no_prefix) (slice_index_or prefixes q no_prefix))
    (ordering_then (record_order (slice_index_or rs p other) (slice_index_or rs q other)) (nat_cmp p q))

-- the positions below a length, each once, in some order
abbrev pub ArePositions : ℕ → List ℕ → Type 0
ArePositions n positions = IsPermutation (range_with_len 0 n) positions

-- for each position the one that has it as its source
abbrev pub AreInverse : List ℕ → List ℕ → Type 0
AreInverse sources positions =
    (length positions ≡ length sources)
    × ((i : ℕ) → i < length sources → (slice_index sources i < length sources) × (slice_index positions (slice_index sources i) ≡ i))

-- the records at positions, in their order
abbrev pub AreTaken : List Record → List ℕ → List Record → Type 0
AreTaken rs sources rows = (length rows ≡ length sources) × ((i : ℕ) (d : Record) → i < length sources → slice_index_or rows i d ≡ slice_index_or rs (slice_index sources i) d)
