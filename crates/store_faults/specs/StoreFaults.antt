-- The refusals of the table in SQLite, by their published numbers.
use Rattle.std.specs.Prelude.{◌≡◌, ℕ, ◌+◌, Result, Ok, Err}
use Rattle.sqlite.specs.declared.error.Error.{Error}
use Rattle.sqlite.specs.declared.error.Error.TheVariants.{SqliteFailure}
use Rattle.sqlite.specs.declared.error.ErrorCode.TheVariants.{DatabaseCorrupt}
use Rattle.zone_core.specs.declared.faults.ZoneFault.{ZoneFault}
use Rattle.zone_core.specs.declared.faults.ZoneFault.TheVariants as zones
use Rattle.zone_core.specs.Faults.{zone_fault_number}
use Rattle.store_sql.specs.Faults.{fault_of}
use Rattle.store_sql.specs.declared.rows_fault.RowsFault.{RowsFault}
use Rattle.store_sql.specs.declared.rows_fault.RowsFault.TheVariants as tables
use Rattle.store_faults.specs.declared.store_fault.StoreFault.{StoreFault}
use Rattle.store_faults.specs.declared.store_fault.StoreFault.TheVariants.{ZoneExists, NoZone, SerialNotGreater, WrongVersion, Store, BadRow, Zone, NoMemory}

-- the published number of a refusal; that of a zone is its own
abbrev pub store_fault_number : StoreFault → ℕ
store_fault_number ZoneExists = 71
store_fault_number NoZone = 72
store_fault_number SerialNotGreater = 73
store_fault_number WrongVersion = 74
store_fault_number (Store cause) = 75
store_fault_number BadRow = 76
store_fault_number (Zone fault) = zone_fault_number fault
store_fault_number NoMemory = 99

-- ---- the faults of what the table stands on

-- a row that was not written here, of a store in which all rows were, is a failure of the store
abbrev pub of_rows : RowsFault → StoreFault
of_rows (tables.Store cause) = Store cause
of_rows tables.BadRow = Store (SqliteFailure DatabaseCorrupt)
of_rows tables.NoMemory = NoMemory

-- of rows that somebody else may have written it is found
abbrev pub of_found : RowsFault → StoreFault
of_found (tables.Store cause) = Store cause
of_found tables.BadRow = BadRow
of_found tables.NoMemory = NoMemory

-- an error of the store
abbrev pub of_store : Error → StoreFault
of_store error = of_rows (fault_of error)

-- records that are no zone
abbrev pub of_zone : ZoneFault → StoreFault
of_zone zones.NoMemory = NoMemory
of_zone fault = Zone fault

-- what a definition of zones gives
abbrev pub of_zones : {A : Type 0} → Result A ZoneFault → Result A StoreFault
of_zones (Ok x) = Ok x
of_zones (Err fault) = Err (of_zone fault)

-- the next step, unless there is a fault
infixl 10 ◌>>=◌
abbrev pub ◌>>=◌ : {A B : Type 0} → Result A StoreFault → (A → Result B StoreFault) → Result B StoreFault
(Ok x) >>= f = f x
(Err e) >>= f = Err e

-- ---- what a call tells

-- the store failed, or memory ran out
abbrev pub IsFailure : StoreFault → Type 0
IsFailure (Store cause) = Unit {0}
IsFailure NoMemory = Unit {0}
IsFailure fault = ⊥

-- rows are no state, or it is a failure
abbrev pub IsOfRows : StoreFault → Type 0
IsOfRows BadRow = Unit {0}
IsOfRows fault = IsFailure fault

-- what a call refused with is the refusal of the definition; a failure says nothing of the definition
abbrev pub Refuses : {Y : Type 0} → StoreFault → Result Y StoreFault → Type 0
Refuses (Store cause) told = Unit {0}
Refuses NoMemory told = Unit {0}
Refuses fault told = told ≡ Err fault

-- what a call answered, seen by view, is what the definition gives, unless it failed
abbrev pub Gives : {X Y : Type 0} → (X → Y) → Result X StoreFault → Result Y StoreFault → Type 0
Gives view (Ok x) told = told ≡ Ok (view x)
Gives view (Err e) told = Refuses e told

-- ---- the count of failures

-- a failure of the store raises the count by one
abbrev pub CountsFailure : ℕ → ℕ → StoreFault → Type 0
CountsFailure before after (Store cause) = after ≡ before + 1
CountsFailure before after fault = after ≡ before

-- and nothing else does
abbrev pub CountsCall : {X : Type 0} → ℕ → ℕ → Result X StoreFault → Type 0
CountsCall before after (Ok x) = after ≡ before
CountsCall before after (Err fault) = CountsFailure before after fault
