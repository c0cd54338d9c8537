-- The store of a path: what the files say of the path, what is opened, made, read, written and migrated there, and what the connection to
-- it shows when a command has done with it.
use Rattle.std.specs.Prelude.{◌≡◌, ◌≢◌, ◌⊎◌, ℕ, Bool, false, List, Option, Some, None, Result, Ok, Err}
use Rattle.dns_data.specs.declared.record.Record.{Record}
use Rattle.sqlite.specs.State.{State as Shown, HasCleanDisk}
use Rattle.zone_core.specs.Zones.{ZoneOf}
use Rattle.office_model.specs.States.{State}
use Rattle.store_sql.specs.Holds.{Keeps, Leaves}
use Rattle.store_sql.specs.Tables.{no_schema}
use Rattle.store_rows.specs.Batches.{nothing_held}
use Rattle.store_rows.specs.Contents.{ContentOf}
use Rattle.store_faults.specs.StoreFaults.{IsFailure, IsOfRows, Gives}
use Rattle.store_faults.specs.declared.store_fault.StoreFault.{StoreFault}
use Rattle.store_faults.specs.declared.store_fault.StoreFault.TheVariants.{NoZone, WrongVersion, BadRow}
use Rattle.office_store.specs.Holds.{HoldsState, HasNone, HasVersion, IsOfVersion, IsStateIn, LeavesStates}
use Rattle.office_store.specs.Migration.{HoldsOld, IsMigrated, IsMigratedFrom}
use Rattle.office_store.specs.Queries.{Asked, AsksOnly, Only}
use Rattle.office_store.specs.Turns.{Turns}
use Rattle.office_store.specs.Zones.{exported}
use Rattle.cli_core.specs.declared.job.Existing.{Existing}
use Rattle.cli_core.specs.declared.job.Existing.TheVariants.{Kept, Replaced}
use Rattle.std.specs.Prelude.{pos}
use Rattle.cli_core.specs.declared.refusal.Refusal.{Refusal}
use Rattle.cli_core.specs.declared.refusal.Refusal.TheVariants.{Zone, Store}
use Rattle.cli_core.specs.declared.line_fault.LineFault.{LineFault}
use Rattle.cli_core.specs.declared.line_fault.LineFault.TheVariants.{Refused, ReadFailed, NoMemory}
use Rattle.cli_store.specs.Puts.{put_into, with_put}

-- a refusal of a store: its own, or of records that it builds a zone of
abbrev pub IsOfStore : Refusal → Type 0
IsOfStore (Store fault) = Unit {0}
IsOfStore (Zone fault) = Unit {0}
IsOfStore refusal = ⊥

-- the same as a line, or out of memory
abbrev pub IsStoreLine : LineFault → Type 0
IsStoreLine (Refused refusal) = IsOfStore refusal
IsStoreLine NoMemory = Unit {0}
IsStoreLine ReadFailed = ⊥

-- ---- the stores of paths

-- What is known of the stores of paths: what a connection to one shows, whether there is a file, why it is refused, and what it connects
-- to.
pub record StoresOf (C : Type 0) : Type 1 where
  pub shows : C → Shown
  pub finds : List ℕ → Bool → Type 0
  pub refuses : List ℕ → StoreFault → Type 0
  pub connects : List ℕ → C → Type 0

abbrev pub stores_of : {C : Type 0} → (C → Shown) → (List ℕ → Bool → Type 0) → (List ℕ → StoreFault → Type 0) → (List ℕ → C → Type 0) → StoresOf C
stores_of shows finds refuses connects = record { shows = shows; finds = finds; refuses = refuses; connects = connects }

-- ---- what a connection shows

-- It was connected to showing found, and shows exactly the state that was there; and a crash leaves what was committed.
pub record IsAdopted (found now : Shown) : Type 0 where
  pub holds : HasCleanDisk now → (s : State) × HoldsState now s × LeavesStates now s s
  pub asked : Asked found now
  pub only : HasCleanDisk now → Only found now
  pub left : Leaves now (λ db. db ≡ now.committed.trees)

-- Why it is no store: of a state only that the store failed or memory ran out; else the tables are not those of this version, or their
-- rows are no state. It shows what it showed.
pub record IsNoStore (found left : Shown) (fault : StoreFault) : Type 0 where
  pub asked : Asked found left
  pub keeps : Keeps found left
  pub named : (fault ≡ WrongVersion) ⊎ IsOfRows fault
  pub good : HasCleanDisk left → (s : State) → HoldsState found s → IsFailure fault
  pub wrong : HasCleanDisk left → fault ≡ WrongVersion → ¬ HasVersion found
  pub bad : HasCleanDisk left → fault ≡ BadRow → HasVersion found

-- There were no tables, and they were made, with nothing in them.
pub record IsMade (found now : Shown) : Type 0 where
  pub bare : ¬ (found.now.schema ≢ no_schema)
  pub holds : HoldsState now nothing_held
  pub left : LeavesStates now nothing_held nothing_held
  pub honest : HasCleanDisk now → HasCleanDisk found

-- There were none, and they could not be made: none is there, and a crash leaves what it left before, or the tables with nothing in them.
pub record IsUnmade (found left : Shown) (fault : StoreFault) : Type 0 where
  pub bare : ¬ (found.now.schema ≢ no_schema)
  pub failed : IsFailure fault
  pub none : HasNone left
  pub crash : Leaves left (λ db. found.may_leave db ⊎ IsStateIn db nothing_held)

-- What was held is held migrated.
abbrev pub IsMigratedTo : Shown → Shown → ℕ → Type 0
IsMigratedTo found after zones = HasCleanDisk after → IsMigrated found after zones

-- Why it was not migrated: of rows of version 1 only that the store failed or memory ran out; else the tables are not those of version 1,
-- or their rows are not as a program of that version wrote them. It shows what it showed. A crash leaves what it left before, or what was
-- held migrated; and where the tables or rows are wrong, only what it left before.
pub record IsUnmigrated (found after : Shown) (fault : StoreFault) : Type 0 where
  pub keeps : Keeps found after
  pub named : (fault ≡ WrongVersion) ⊎ IsOfRows fault
  pub good : HasCleanDisk after → (content : ContentOf) → HoldsOld found content → IsFailure fault
  pub wrong : HasCleanDisk after → fault ≡ WrongVersion → ¬ IsOfVersion (pos 1) found
  pub bad : HasCleanDisk after → fault ≡ BadRow → IsOfVersion (pos 1) found
  pub crash : Leaves after (λ db. found.may_leave db ⊎ IsMigratedFrom found db)
  pub same : (fault ≡ WrongVersion) ⊎ (fault ≡ BadRow) → Asked found after

-- ---- what is done there, by what connections show

-- The zone is put into the store, or the table's own refusal comes: what the connection showed before and after.
abbrev pub IsPut : Existing → ZoneOf → Shown → Shown → Result (Unit {0}) StoreFault → Type 0
IsPut existing zone now after result =
    Turns now after result (λ s. with_put existing s zone)
    × (HasCleanDisk after → (s : State) → HoldsState now s → Gives (λ _. zone) result (put_into existing s zone))

-- The records of an origin are read from the store, which stays as it is.
abbrev pub IsRead : {X : Type 0} → (X → List Record) → List (List ℕ) → Shown → Shown → Result X StoreFault → Type 0
IsRead view origin now after result =
    AsksOnly now after result × (HasCleanDisk after → (s : State) → HoldsState now s → Gives view result (exported (s.zones origin)))

-- ---- the store of a path, by what the files say of the path: whether there is a file, why it refuses it, and what it connects to. After
-- each comes the connection that is handed back, if one was made: what it shows is what is left of the store.

-- this connection is handed back
abbrev pub IsLeft : {C : Type 0} → Option C → (C → Type 0) → Type 0
IsLeft {C} left is = (after : C) × (left ≡ Some after) × is after

-- there is no file, or the files refuse it
abbrev pub IsUnfound : (Bool → Type 0) → (StoreFault → Type 0) → StoreFault → Type 0
IsUnfound finds refuses fault = (finds false × (fault ≡ NoZone)) ⊎ refuses fault

-- a store that is there
abbrev pub IsOpened : {C : Type 0} → (C → Shown) → (C → Type 0) → C → Type 0
IsOpened {C} shows connects now = (found : C) × connects found × IsAdopted (shows found) (shows now)

-- nothing was connected, or what was connected is not a store
abbrev pub IsUnopened : {C : Type 0} → (C → Shown) → (Bool → Type 0) → (StoreFault → Type 0) → (C → Type 0) → Option C → StoreFault → Type 0
IsUnopened {C} shows finds refuses connects left fault =
    (IsUnfound finds refuses fault × (left ≡ None))
    ⊎ ((found : C) × connects found × IsLeft left (λ after. IsNoStore (shows found) (shows after) fault))

-- one that is made if the path has no store
abbrev pub IsOpenedOrMade : {C : Type 0} → (C → Shown) → (C → Type 0) → C → Type 0
IsOpenedOrMade {C} shows connects now = (found : C) × connects found × (IsAdopted (shows found) (shows now) ⊎ IsMade (shows found) (shows now))

abbrev pub IsUnopenedOrMade : {C : Type 0} → (C → Shown) → (StoreFault → Type 0) → (C → Type 0) → Option C → StoreFault → Type 0
IsUnopenedOrMade {C} shows refuses connects left fault =
    (refuses fault × (left ≡ None))
    ⊎ ((found : C) × connects found × IsLeft left (λ after. IsNoStore (shows found) (shows after) fault ⊎ IsUnmade (shows found) (shows after) fault))

-- one for a zone: where a zone is to be replaced it is there
abbrev pub IsReached : {C : Type 0} → (C → Shown) → (C → Type 0) → Existing → C → Type 0
IsReached shows connects Kept now = IsOpenedOrMade shows connects now
IsReached shows connects Replaced now = IsOpened shows connects now

abbrev pub IsUnreached : {C : Type 0} → (C → Shown) → (Bool → Type 0) → (StoreFault → Type 0) → (C → Type 0) → Existing → Option C → StoreFault → Type 0
IsUnreached shows finds refuses connects Kept left fault = IsUnopenedOrMade shows refuses connects left fault
IsUnreached shows finds refuses connects Replaced left fault = IsUnopened shows finds refuses connects left fault

-- a zone is put into the store of the path, once that is reached
abbrev pub IsStored : {C : Type 0} → (C → Shown) → (Bool → Type 0) → (StoreFault → Type 0) → (C → Type 0) → Existing → ZoneOf → Option C → Result (Unit {0}) StoreFault → Type 0
IsStored {C} shows finds refuses connects existing zone left (Ok done) =
    (now : C) × IsReached shows connects existing now × IsLeft left (λ after. IsPut existing zone (shows now) (shows after) (Ok done))
IsStored {C} shows finds refuses connects existing zone left (Err fault) =
    IsUnreached shows finds refuses connects existing left fault
    ⊎ ((now : C) × IsReached shows connects existing now × IsLeft left (λ after. IsPut existing zone (shows now) (shows after) (Err fault)))

-- something is read from the store of the path, or taken out of it, once that is opened: what it is, by what the connection showed before
-- and after
abbrev pub IsGot : {C X : Type 0} → (C → Shown) → (Bool → Type 0) → (StoreFault → Type 0) → (C → Type 0) → (Shown → Shown → Result X StoreFault → Type 0) → Option C → Result X StoreFault → Type 0
IsGot {C} {X} shows finds refuses connects got left (Ok x) =
    (now : C) × IsOpened shows connects now × IsLeft left (λ after. got (shows now) (shows after) (Ok x))
IsGot {C} {X} shows finds refuses connects got left (Err fault) =
    IsUnopened shows finds refuses connects left fault
    ⊎ ((now : C) × IsOpened shows connects now × IsLeft left (λ after. got (shows now) (shows after) (Err fault)))

-- the records of an origin are read so
abbrev pub IsHeld : {C X : Type 0} → (C → Shown) → (Bool → Type 0) → (StoreFault → Type 0) → (C → Type 0) → (X → List Record) → List (List ℕ) → Option C → Result X StoreFault → Type 0
IsHeld {C} {X} shows finds refuses connects view origin left result = IsGot {C = C} {X = X} shows finds refuses connects (IsRead view origin) left result

-- the store of the path is migrated from version 1, and so many of its zones were changed
abbrev pub IsMigratedStore : {C : Type 0} → (C → Shown) → (Bool → Type 0) → (StoreFault → Type 0) → (C → Type 0) → Option C → Result ℕ StoreFault → Type 0
IsMigratedStore {C} shows finds refuses connects left (Ok zones) =
    (found : C) × connects found × IsLeft left (λ after. IsMigratedTo (shows found) (shows after) zones)
IsMigratedStore {C} shows finds refuses connects left (Err fault) =
    (IsUnfound finds refuses fault × (left ≡ None))
    ⊎ ((found : C) × connects found × IsLeft left (λ after. IsUnmigrated (shows found) (shows after) fault))
