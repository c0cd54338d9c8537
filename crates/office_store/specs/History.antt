-- What a table remembers of the changes of zones.
use Rattle.std.specs.Prelude.{List, Option, Some}
use Rattle.std.specs.List.{AllByRecursion}
use Rattle.sqlite.specs.State.{State as Shown, HasCleanDisk}
use Rattle.office_model.specs.States.{State}
use Rattle.store_cache.specs.declared.history.ZoneHistory.{ZoneHistory}
use Rattle.store_cache.specs.History.{Remembers}
use Rattle.office_store.specs.Holds.{HoldsState}

-- As long as the store has kept its word, the connection holds a state whose changes are remembered.
pub record FitsHistory (conn : Shown) (history : Option ZoneHistory) : Type 0 where
  pub held : HasCleanDisk conn → ∥ ((s : State) × HoldsState conn s × Remembers s history) ∥₁

-- the same of each of some zones whose changes are remembered
abbrev pub RememberEach : Shown → List ZoneHistory → Type 0
RememberEach conn zones = AllByRecursion (λ zone. FitsHistory conn (Some zone)) zones
