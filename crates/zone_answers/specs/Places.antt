-- Where a name is among records in record order, and its closest encloser by the records beside that place.
use Rattle.std.specs.Prelude.{◌≡◌, ℕ, ◌+◌, ◌-◌, ◌<◌, ◌≤◌, List, [], ◌∷◌, length, take, drop, slice_index_or, min, Bool, true, false, if◌then◌else◌, Option, Some, None, nat_eq}
use Rattle.std.specs.List.{filter, list_any}
use Rattle.std.specs.List.Sorted.{IsPartitionPoint, IsPartitionedBy}
use Rattle.std.specs.Ordering.{is_lt, is_le}
use Rattle.dns_names.specs.Labels.{IsWithin, is_within}
use Rattle.dns_names.specs.Keys as names
use Rattle.dns_names.specs.Order.{canonical_cmp}
use Rattle.dns_data.specs.declared.record.Record.{Record}
use Rattle.dns_data.specs.declared.record_type.RecordType.TheVariants as types
use Rattle.zone_core.specs.Sets.{key_of, at_name}
use Rattle.zone_answers.specs.declared.places.Located.{Located}
use Rattle.zone_answers.specs.declared.places.Located.TheVariants.{Node, Between}
use Rattle.zone_answers.specs.declared.referrals.Referral.{Referral}
use Rattle.zone_answers.specs.declared.query_type.QueryType.TheVariants.{Kept}
use Rattle.zone_answers.specs.Answers.{Name, asked_at, Found, Delegated}
use Rattle.zone_answers.specs.AnswerTests.{is_there}

-- ---- places, of records that have their owners in canonical order (RFC 4034 section 6.1)

-- so many records are before a name, and no more
abbrev pub EndsBefore : Name → List Record → ℕ → Type 0
EndsBefore name rs n =
    IsPartitionedBy (λ (r : Record). is_lt (canonical_cmp r.owner name)) rs
    → IsPartitionPoint (λ (r : Record). is_lt (canonical_cmp r.owner name) ≡ true) (λ (r : Record). is_lt (canonical_cmp r.owner name) ≡ false) rs n

-- so many records, of which none is before a name, are at it, and no more
abbrev pub EndsAt : Name → List Record → ℕ → Type 0
EndsAt name rs n =
    IsPartitionedBy (λ (r : Record). is_le (canonical_cmp r.owner name)) rs → ((k : ℕ) (d : Record) → k < length rs → is_lt (canonical_cmp (slice_index_or rs k d).owner name) ≡ false)
    → IsPartitionPoint (λ (r : Record). is_le (canonical_cmp r.owner name) ≡ true) (λ (r : Record). is_le (canonical_cmp r.owner name) ≡ false) rs n

-- the records at a name
abbrev pub node_of : List Record → Name → List Record
node_of rs name = filter (λ r. at_name name (key_of r)) rs

-- whether the first of records is within a name
abbrev pub begins_within : List Record → Name → Bool
begins_within [] name = false
begins_within (r ∷ rs) name = is_within r.owner name

-- the record before a place, and the one after it
abbrev pub beside : List Record → ℕ → List Record
beside rs n = take (min (length (drop (n - 1) rs)) (n - (n - 1) + 1)) (drop (n - 1) rs)

-- ---- the closest encloser

-- the nearest name above another that exists (RFC 4592 section 3.3.1)
abbrev pub encloser_over : List Record → Name → Option Name
encloser_over rs [] = None
encloser_over rs (label ∷ labels) = if is_there rs labels then Some labels else encloser_over rs labels

-- whether owners have an octet `*` (RFC 4592 section 2.1.1)
abbrev pub have_asterisks : List Record → Bool
have_asterisks rs = list_any (λ r. list_any (λ o. nat_eq o 42) (names.key_of r.owner)) rs

-- of the names above another, those exist at which or below which one of some records is
abbrev pub AreNearest : List Record → List Record → Name → Type 0
AreNearest rs near name = (top : Name) → IsWithin name top → is_there near top ≡ is_there rs top

-- a name exists, and these are the records at it; or it does not, and these tell which of the names above it do
abbrev pub IsLocated : List Record → Name → Located → Type 0
IsLocated rs name (Node node) = (is_there rs name ≡ true) × (node.now ≡ node_of rs name)
IsLocated rs name (Between near) = (is_there rs name ≡ false) × AreNearest rs near.now name

-- ---- referrals

-- the servers of a cut to which a question is referred
abbrev pub servers_in : List Record → Found → List Record
servers_in rs (Delegated cut) = asked_at rs cut (Kept types.Ns)
servers_in rs found = []

-- the last of records, from a place on
abbrev pub IsRest : List Record → List Record → Type 0
IsRest rs rest = (n : ℕ) × (n ≤ length rs) × (rest ≡ drop n rs)

-- these are the servers, and some of the last records
pub record IsReferral (rs : List Record) (found : Found) (referral : Referral) : Type 0 where
  pub servers : referral.servers.now ≡ servers_in rs found
  pub rest : IsRest rs referral.rest.now
