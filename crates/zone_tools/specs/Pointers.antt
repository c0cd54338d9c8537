-- The pointers that the addresses of forward zones call for in a reverse zone (RFC 1035 section 3.5).
use Rattle.std.specs.Prelude.{◌≡◌, ◌≢◌, ◌↔◌, ℕ, List, [], ◌∷◌, length, false, if◌then◌else◌, Option, Some, None}
use Rattle.std.specs.List.{AllByRecursion, Contains, flat_map}
use Rattle.std.specs.List.Sorted.{IsStrictlySortedBy}
use Rattle.std.specs.Ordering.{nat_cmp, on, then_cmp}
use Rattle.std.specs.declared.cmp.Ordering.{Ordering}
use Rattle.std.specs.declared.cmp.Ordering.TheVariants.{Less}
use Rattle.dns_names.specs.Order.{canonical_cmp}
use Rattle.dns_data.specs.declared.record.Record.{Record}
use Rattle.dns_data.specs.declared.rdata.Data.{Data}
use Rattle.dns_data.specs.declared.rdata.Data.TheVariants.{Ptr}
use Rattle.dns_data.specs.Rdata.{IsRecord}
use Rattle.dns_data.specs.RecordOrder.{data_order}
use Rattle.zone_tools.specs.HostNames.{is_wildcard}
use Rattle.zone_tools.specs.ReverseNames.{IsPlaceOf, place_of}

-- A record of a forward zone calls for a pointer in a reverse zone of this origin: the zone has the record's address at the pointer's
-- owner, the record's owner is no wildcard, and the pointer points to it, with the record's TTL.
pub record CallsFor (origin : List (List ℕ)) (r pointer : Record) : Type 0 where
  pub place : IsPlaceOf origin r.rdata pointer.owner
  pub host : is_wildcard r.owner ≡ false
  pub target : pointer.rdata ≡ Ptr r.owner
  pub ttl : pointer.ttl ≡ r.ttl

-- how many labels the target of a pointer has
abbrev pub target_len : Data → ℕ
target_len (Ptr target) = length target
target_len rdata = 0

-- which of the pointers for one address comes first: that with the fewest labels in its target, then by the text of the target, then
-- with the lowest TTL
abbrev pub choice : Record → Record → Ordering
choice = then_cmp (then_cmp (on (λ p. target_len p.rdata) nat_cmp) (on (λ p. p.rdata) data_order)) (on (λ p. p.ttl) nat_cmp)

-- a pointer that the records call for, and none that comes before it for that owner
pub record IsPointerFor (origin : List (List ℕ)) (rs : List Record) (pointer : Record) : Type 0 where
  pub called : (r : Record) × Contains rs r × CallsFor origin r pointer
  pub first : (r other : Record) → Contains rs r → CallsFor origin r other → other.owner ≡ pointer.owner → choice other pointer ≢ Less

-- records in the canonical order of their owners (RFC 4034 section 6.1), of which no two have one owner
abbrev pub AreByOwner : List Record → Type 0
AreByOwner = IsStrictlySortedBy (on (λ p. p.owner) canonical_cmp)

-- The pointers that records call for: each is called for, each address of the origin has one, and no two have one owner.
pub record ArePointers (origin : List (List ℕ)) (rs pointers : List Record) : Type 0 where
  pub each : (p : Record) → Contains pointers p → IsPointerFor origin rs p
  pub all : (r p : Record) → Contains rs r → CallsFor origin r p → (q : Record) × Contains pointers q × (q.owner ≡ p.owner)
  pub order : AreByOwner pointers

-- complete: each record of a host's address within the origin has a pointer at the address's name
abbrev pub AreComplete : List (List ℕ) → List Record → List Record → Type 0
AreComplete origin rs pointers =
    (r : Record) (owner : List (List ℕ)) → Contains rs r → is_wildcard r.owner ≡ false → IsPlaceOf origin r.rdata owner
    → (p : Record) × Contains pointers p × (p.owner ≡ owner)

-- sound: each pointer's owner is the name of the address of a record, whose owner is its target
abbrev pub AreSound : List (List ℕ) → List Record → List Record → Type 0
AreSound origin rs pointers =
    (p : Record) → Contains pointers p → (r : Record) × Contains rs r × IsPlaceOf origin r.rdata p.owner × (p.rdata ≡ Ptr r.owner)

-- once: no two pointers have one owner
abbrev pub HaveOwnersOnce : List Record → Type 0
HaveOwnersOnce pointers = (p q : Record) → Contains pointers p → Contains pointers q → p.owner ≡ q.owner → p ≡ q

-- Lists with the same records have the same pointers: so they are the same when they are made again, and whatever the records' order.
abbrev pub PointersAreOne : Type 0
PointersAreOne =
    (origin : List (List ℕ)) (rs ss ps qs : List Record) → AllByRecursion IsRecord rs → ((r : Record) → Contains rs r ↔ Contains ss r)
    → ArePointers origin rs ps → ArePointers origin ss qs → ps ≡ qs

-- ---- the same as tests that compute

abbrev pub pointer_at : Record → Option (List (List ℕ)) → List Record
pointer_at r None = []
pointer_at r (Some owner) = (record { owner = owner; ttl = r.ttl; rdata = Ptr r.owner }) ∷ []

-- the pointer that a record calls for
abbrev pub pointer_of : List (List ℕ) → Record → List Record
pointer_of origin r = if is_wildcard r.owner then [] else pointer_at r (place_of origin r.rdata)

-- all that records call for
abbrev pub called : List (List ℕ) → List Record → List Record
called origin rs = flat_map (pointer_of origin) rs

-- by owner, and for one owner by choice
abbrev pub pointer_order : Record → Record → Ordering
pointer_order = then_cmp (on (λ p. p.owner) canonical_cmp) choice

-- of some pointers those that come first for their owners
pub record AreFirsts (all firsts : List Record) : Type 0 where
  pub each : (p : Record) → Contains firsts p → Contains all p
  pub first : (p other : Record) → Contains firsts p → Contains all other → other.owner ≡ p.owner → choice other p ≢ Less
  pub every : (p : Record) → Contains all p → (q : Record) × Contains firsts q × (q.owner ≡ p.owner)
  pub order : AreByOwner firsts
