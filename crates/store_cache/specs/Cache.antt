-- A zone that is kept in memory, and follows its changes.
use Rattle.std.specs.Prelude.{◌≡◌, ℕ, List, Bool, false, if◌then◌else◌, Option, Some, None, option_map}
use Rattle.dns_names.specs.Order.{same_name}
use Rattle.dns_data.specs.declared.record.Record.{Record}
use Rattle.grant_policy.specs.Grants.{GrantsOf}
use Rattle.zone_core.specs.Sets.{set_of, listing, part, within}
use Rattle.zone_core.specs.Zones.{ZoneOf, IsZone}
use Rattle.zone_core.specs.Parts.{part_of, at_names}
use Rattle.zone_core.specs.Changes.{ChangeOf, changed}
use Rattle.office_model.specs.Tables.{AdditionOf, included}
use Rattle.store_cache.specs.declared.cached_zone.CachedZone.{CachedZone}

-- ---- the cached zone

-- a zone with a change made
abbrev pub with_change : ZoneOf → ChangeOf → ZoneOf
with_change zone c = record zone { records = changed zone.records c.removed c.added }

-- the cached zone: its origin, and the set of its rows
abbrev pub current_zone : CachedZone → ZoneOf
current_zone cached = record { origin = cached.origin; records = set_of cached.rows }

-- the cached zone, if there is one
abbrev pub cached_in : Option CachedZone → Option ZoneOf
cached_in cache = option_map current_zone cache

-- a zone is cached, and it is the one of an origin
abbrev pub is_cached_of : Option ZoneOf → List (List ℕ) → Bool
is_cached_of None origin = false
is_cached_of (Some zone) origin = same_name zone.origin origin

-- records are all those of a zone that is cached, which is the one of an origin
pub record AreAllRecordsOf (cached : Option ZoneOf) (origin : List (List ℕ)) (rs : List Record) : Type 0 where
  pub zone : ZoneOf
  pub is_cached : cached ≡ Some zone
  pub own : zone.origin ≡ origin
  pub records : rs ≡ listing zone.records

-- or those within a name that grants include
pub record AreIncludedOf (cached : Option ZoneOf) (origin top : List (List ℕ)) (grants : GrantsOf) (rs : List Record) : Type 0 where
  pub zone : ZoneOf
  pub is_cached : cached ≡ Some zone
  pub own : zone.origin ≡ origin
  pub records : rs ≡ included grants (listing (part zone.records (within top)))

-- a zone is the part at some names of a zone that is cached, which is the one of an origin; it is that as long as that one is a zone
pub record IsPartOf (cached : Option ZoneOf) (origin : List (List ℕ)) (names : List (List (List ℕ))) (whole : ZoneOf) : Type 0 where
  pub zone : ZoneOf
  pub is_cached : cached ≡ Some zone
  pub own : zone.origin ≡ origin
  pub part : IsZone zone → whole ≡ part_of zone (at_names origin names)

-- ---- after a change

-- a zone after a change of the zone of an origin
abbrev pub changed_at : List (List ℕ) → ChangeOf → ZoneOf → ZoneOf
changed_at origin c zone = if same_name zone.origin origin then with_change zone c else zone

-- a zone after a change of the zone of an origin, if there is one
abbrev pub cached_behind : List (List ℕ) → Option ChangeOf → Option ZoneOf → Option ZoneOf
cached_behind origin None cached = cached
cached_behind origin (Some c) cached = option_map (changed_at origin c) cached

-- the cached zone after an addition
abbrev pub cached_after : AdditionOf → Option ZoneOf → Option ZoneOf
cached_after a cached = cached_behind a.receipt.origin a.change cached
