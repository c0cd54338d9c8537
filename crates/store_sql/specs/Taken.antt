-- What a check has taken of rows that were handed over, one after the other.
use Rattle.std.specs.Prelude.{ℤ, List, ◌++◌}
use Rattle.sqlite_value.specs.Order.{Row}
use Rattle.store_sql.specs.Stores.{AreNumbered}

-- what had taken some rows has taken these after them
abbrev pub TakesMore : {C R : Type 0} → (C → List R → Type 0) → C → C → List R → Type 0
TakesMore {C} {R} has_taken old new rows = (before : List R) → has_taken old before → has_taken new (before ++ rows)

-- of rows of an answer, which have these rowids, it has taken what they store
pub record AreTaken {C R : Type 0} (stored : R → Row) (has_taken : C → List R → Type 0) (old new : C) (given : List Row) (ids : List ℤ) : Type 0 where
  pub rows : List R
  pub numbered : AreNumbered stored given ids rows
  pub taken : TakesMore has_taken old new rows
