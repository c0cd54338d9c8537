-- The addresses that several names have.
use Rattle.std.specs.Prelude.{◌≡◌, ◌≢◌, ℕ, List, [], ◌∷◌, ◌++◌, Bool, true, false, not, ◌&&◌, ◌==◌, is_some, if◌then◌else◌}
use Rattle.std.specs.List.{Contains, list_any}
use Rattle.std.specs.List.Sorted.{IsStrictlySortedBy}
use Rattle.std.specs.Net.Addr.{ipv4_bits, ipv6_bits}
use Rattle.std.specs.Ordering.{is_eq, nat_cmp, on, then_cmp, eq_by_cmp}
use Rattle.std.specs.declared.cmp.Ordering.{Ordering}
use Rattle.dns_names.specs.Order.{canonical_cmp, same_name}
use Rattle.dns_data.specs.declared.record.Record.{Record}
use Rattle.dns_data.specs.declared.rdata.Data.{Data}
use Rattle.dns_data.specs.declared.rdata.Data.TheVariants.{A, Aaaa}
use Rattle.dns_data.specs.RecordOrder.{data_order}
use Rattle.zone_tools.specs.ReverseNames.{IsPlaceOf, place_of}
use Rattle.zone_tools.specs.HostNames.{is_wildcard}

-- one of the records, with an address that a reverse zone of this origin has, at a name that is no wildcard
pub record HasPlace (origin : List (List ℕ)) (rs : List Record) (r : Record) : Type 0 where
  pub there : Contains rs r
  pub host : is_wildcard r.owner ≡ false
  pub owner : List (List ℕ)
  pub place : IsPlaceOf origin r.rdata owner

-- one of them, whose address another has at another name
pub record IsShared (origin : List (List ℕ)) (rs : List Record) (r : Record) : Type 0 where
  pub place : HasPlace origin rs r
  pub other : Record
  pub other_place : HasPlace origin rs other
  pub address : other.rdata ≡ r.rdata
  pub name : other.owner ≢ r.owner

-- by address, and for one address by owner
abbrev pub address_order : Record → Record → Ordering
address_order = then_cmp (on (λ r. r.rdata) data_order) (on (λ r. r.owner) canonical_cmp)

-- the records whose addresses several names have, by address and name, each once
pub record AreShared (origin : List (List ℕ)) (rs shared : List Record) : Type 0 where
  pub each : (r : Record) → Contains shared r → IsShared origin rs r
  pub all : (r : Record) → IsShared origin rs r → (s : Record) × Contains shared s × (s.owner ≡ r.owner) × (s.rdata ≡ r.rdata)
  pub order : IsStrictlySortedBy address_order shared

-- ---- the same as tests that compute

abbrev pub has_place : List (List ℕ) → Record → Bool
has_place origin r = not (is_wildcard r.owner) && is_some (place_of origin r.rdata)

-- some records in order, of which no two have one address and owner
pub record AreDistinct (all distinct : List Record) : Type 0 where
  pub each : (r : Record) → Contains distinct r → Contains all r
  pub every : (r : Record) → Contains all r → (s : Record) × Contains distinct s × (eq_by_cmp address_order r s ≡ true)
  pub order : IsStrictlySortedBy address_order distinct

-- whether a record has the address of another at another name
abbrev pub is_namesake : Record → Record → Bool
is_namesake r s = is_eq (data_order s.rdata r.rdata) && not (same_name s.owner r.owner)

abbrev pub is_shared : List Record → Record → Bool
is_shared rs r = list_any (is_namesake r) rs

-- ---- the records of hosts whose addresses occur more than once

-- the number whose bits are an address; other data have none
abbrev pub address_number : Data → ℕ
address_number (A address) = ipv4_bits address
address_number (Aaaa address) = ipv6_bits address
address_number rdata = 0

abbrev pub is_address : Data → Bool
is_address (A address) = true
is_address (Aaaa address) = true
is_address rdata = false

-- an address at a name that is no wildcard
abbrev pub is_host_address : Record → Bool
is_host_address r = is_address r.rdata && not (is_wildcard r.owner)

abbrev pub number_order : Record → Record → Ordering
number_order = on (λ r. address_number r.rdata) nat_cmp

-- two records if their addresses have one number
abbrev pub if_same_number : Record → Record → List Record
if_same_number first second = if address_number first.rdata == address_number second.rdata then first ∷ second ∷ [] else []

-- the neighbours among records whose addresses have one number
abbrev pub same_neighbours : List Record → List Record
same_neighbours [] = []
same_neighbours (first ∷ []) = []
same_neighbours (first ∷ second ∷ rs) = if_same_number first second ++ same_neighbours (second ∷ rs)

-- some of the records, among them any two of hosts with one address
pub record HaveRepeated (rs repeated : List Record) : Type 0 where
  pub each : (r : Record) → Contains repeated r → Contains rs r
  pub all : (r s : Record) → Contains rs r → Contains rs s → is_host_address r ≡ true → is_host_address s ≡ true → r.rdata ≡ s.rdata → r.owner ≢ s.owner
      → Contains repeated r
