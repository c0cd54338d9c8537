-- The zones that a table keeps beside its connection.
use Rattle.std.specs.Prelude.{◌≡◌, List, Option, Some, None}
use Rattle.std.specs.List.{AllByRecursion}
use Rattle.sqlite.specs.State.{State as Shown, HasCleanDisk}
use Rattle.zone_core.specs.Zones.{ZoneOf}
use Rattle.office_model.specs.States.{State, zone_at}
use Rattle.store_cache.specs.declared.cached_zone.CachedZone.{CachedZone}
use Rattle.store_cache.specs.Cache.{current_zone}
use Rattle.office_store.specs.Holds.{HoldsState}

-- a zone is the one of its origin in a state
abbrev pub IsZoneIn : State → Option ZoneOf → Type 0
IsZoneIn s None = Unit {0}
IsZoneIn s (Some zone) = zone_at s zone.origin ≡ Some zone

-- As long as the store has kept its word, the connection holds a state, and the cached zone is a zone of it.
pub record FitsCache (conn : Shown) (cached : Option ZoneOf) : Type 0 where
  pub held : HasCleanDisk conn → ∥ ((s : State) × HoldsState conn s × IsZoneIn s cached) ∥₁

-- the same of each of some cached zones
abbrev pub FitEach : Shown → List CachedZone → Type 0
FitEach conn zones = AllByRecursion (λ cached. FitsCache conn (Some (current_zone cached))) zones
