-- What is printed of the history of a zone of a store: the zone as it was after one of its changes, the items that undo changes, and the
-- change that brought each record.
use Rattle.std.specs.Prelude.{◌≡◌, ◌⊎◌, ℕ, ◌-◌, List, [], ◌∷◌, ◌++◌, Bool, ◌||◌, ◌==◌, nat_le, nat_lt, if◌then◌else◌, Option, Some, None, unwrap_or, length, drop, map, decimal, Result, Ok, Err}
use Rattle.std.specs.List.{flat_map}
use Rattle.sqlite.specs.State.{State as Shown, HasCleanDisk}
use Rattle.dns_names.specs.Labels.{is_within}
use Rattle.dns_names.specs.Reading.{absolute_name}
use Rattle.dns_data.specs.declared.record.Record.{Record}
use Rattle.dns_data.specs.Text.{record_line}
use Rattle.zone_core.specs.Sets.{key_of, listing}
use Rattle.zone_core.specs.Zones.{ZoneOf, built}
use Rattle.zone_core.specs.Changes.{ChangeOf, change_in}
use Rattle.zone_tools.specs.History.{before, bringer}
use Rattle.office_model.specs.States.{Held, State}
use Rattle.store_faults.specs.declared.store_fault.StoreFault.{StoreFault}
use Rattle.store_faults.specs.declared.store_fault.StoreFault.TheVariants.{NoZone}
use Rattle.store_faults.specs.StoreFaults.{IsFailure}
use Rattle.office_store.specs.Holds.{HoldsState}
use Rattle.office_store.specs.Queries.{AsksOnly}
use Rattle.cli_core.specs.declared.job.ZoneForm.{ZoneForm}
use Rattle.cli_core.specs.declared.job.ItemForm.TheVariants.{Guarded}
use Rattle.cli_core.specs.declared.job.GuardScope.TheVariants.{Sets}
use Rattle.cli_core.specs.declared.refusal.Refusal.{Refusal}
use Rattle.cli_core.specs.declared.refusal.Refusal.TheVariants.{NoChange}
use Rattle.cli_core.specs.declared.line_fault.LineFault.{LineFault}
use Rattle.cli_core.specs.declared.line_fault.JobFault.{JobFault}
use Rattle.cli_core.specs.LineFaults.{◌>>=◌, of_names, of_store, of_zones, Gives}
use Rattle.cli_text.specs.Canon.{zone_text_in}
use Rattle.cli_checks.specs.Check.{name_if}
use Rattle.cli_updates.specs.Diff.{items_between}
use Rattle.cli_store.specs.declared.zone_blame.BlameAsked.{BlameAsked}
use Rattle.cli_store.specs.declared.zone_history.ZoneHistory.{ZoneHistory}
use Rattle.cli_store.specs.Export.{ExportWritten, ZoneExported}
use Rattle.cli_store.specs.Log.{passes}
use Rattle.cli_store.specs.Reports.{IsReported, IsShown}
use Rattle.cli_store.specs.Stores.{StoresOf, IsGot}

-- ---- what a store has

-- the zone of an origin and its changes, as a state has them; or that there is no such zone, or a failure of the store
abbrev pub HasHistory : State → List (List ℕ) → Result Held StoreFault → Type 0
HasHistory s origin (Ok held) = s.zones origin ≡ Some held
HasHistory s origin (Err fault) = ((fault ≡ NoZone) × (s.zones origin ≡ None)) ⊎ IsFailure fault

-- what is read is that of the state that the store holds, which stays as it is
abbrev pub IsHistoryRead : List (List ℕ) → Shown → Shown → Result Held StoreFault → Type 0
IsHistoryRead origin now after result = AsksOnly now after result × (HasCleanDisk after → (s : State) → HoldsState now s → HasHistory s origin result)

-- what the program sees of what it has read
abbrev pub history_in : ZoneHistory → Held
history_in history = record { records = history.zone.records; changes = map change_in history.changes.items }

-- ---- the zone after a change

-- the changes after the first ones, so many, where there are so many
abbrev pub later : ℕ → List ChangeOf → Option (List ChangeOf)
later number changes = if nat_le number (length changes) then Some (drop number changes) else None

-- the records before some changes, where there are these
abbrev pub before_later : Held → Option (List ChangeOf) → Result (List Record) Refusal
before_later held None = Err NoChange
before_later held (Some changes) = Ok (listing (before changes held.records))

-- the records after the change of a number: those before all later ones
abbrev pub records_after : ℕ → Held → Result (List Record) Refusal
records_after number held = before_later held (later number held.changes)

-- the zone of these records
abbrev pub zone_after : List (List ℕ) → ℕ → Held → Result ZoneOf Refusal
zone_after origin number held = records_after number held >>= λ records. of_zones (built origin records)

-- as a master file, in a form
abbrev pub past_text : ZoneForm → ℕ → List (List ℕ) → Held → Result (List ℕ) Refusal
past_text form number origin held = records_after number held >>= λ records. Ok (zone_text_in form origin records)

-- ---- items that undo changes

-- the items that lead from the zone after the last of some changes to the zone before the first, by their numbers
abbrev pub undo_between : ℕ → ℕ → List (List ℕ) → Held → Result (List ℕ) Refusal
undo_between first last origin held =
    if (first == 0) || nat_lt last first then Err NoChange
    else (zone_after origin last held >>= λ old. zone_after origin (first - 1) held >>= λ new. Ok (items_between (Guarded Sets) old new))

-- The first change to undo is the last one of the zone, and the last change to undo the first, where none is given.
abbrev pub undo_text : Option ℕ → Option ℕ → List (List ℕ) → Held → Result (List ℕ) Refusal
undo_text first last origin held =
    let from = unwrap_or first (length held.changes) in undo_between from (unwrap_or last from) origin held

-- ---- the change that brought a record

-- the origin, and the name
abbrev pub blame_asked : List ℕ → Option (List ℕ) → Result BlameAsked Refusal
blame_asked word name = of_names (absolute_name word) >>= λ origin. name_if name >>= λ top. Ok (record { origin = origin; name = top })

-- a record after the number of the change that brought it, and after 0 where none did, if it is within the name that is given
abbrev pub blame_line : Option (List (List ℕ)) → Record → Option ℕ → List ℕ
blame_line name r change =
    if passes (λ top. is_within r.owner top) name then decimal (unwrap_or change 0) ++ (32 ∷ (record_line r ++ 10 ∷ [])) else []

-- the records of a zone, in record order
abbrev pub blame_text : BlameAsked → Held → List ℕ
blame_text asked held =
    flat_map (λ r. blame_line asked.name r (bringer held.changes (key_of r))) (listing held.records)

-- ---- the jobs

-- what is made of what was read, by what the answer to it is; or the store's refusal
abbrev pub IsOfHistory : {Y : Type 0} → (Held → Result Y Refusal) → Result Held StoreFault → Result Y LineFault → Type 0
IsOfHistory {Y} answer (Ok held) made = Gives {X = Y} (λ y. y) made (answer held)
IsOfHistory answer (Err refusal) made = made ≡ Err (of_store refusal)

-- What connections show, the words as they are read, of which origin they ask, and the answer to them by what is held of it; what the files
-- say of the path; the connection that is handed back; and the text that was made: that of what the store of the path has; or a word was
-- refused, with no store touched; or what is held has no such answer, or memory ran out for it; or the store refused it.
abbrev pub IsToldOf : {C A : Type 0} → (C → Shown) → Result A Refusal → (A → List (List ℕ)) → (A → Held → Result (List ℕ) Refusal) → (Bool → Type 0) → (StoreFault → Type 0) → (C → Type 0) → Option C → Result (List ℕ) LineFault → Type 0
IsToldOf {C} {A} shows words origin answer finds refuses connects conn (Ok text) =
    (asked : A) × (words ≡ Ok asked)
    × ((held : Held) × IsGot shows finds refuses connects (IsHistoryRead (origin asked)) conn (Ok held) × (answer asked held ≡ Ok text))
IsToldOf {C} {A} shows words origin answer finds refuses connects conn (Err fault) =
    (Gives {X = A} (λ asked. asked) (Err fault) words × (conn ≡ None))
    ⊎ ((asked : A) × (words ≡ Ok asked)
    × (((held : Held) × IsGot shows finds refuses connects (IsHistoryRead (origin asked)) conn (Ok held) × Gives {X = List ℕ} (λ text. text) (Err fault) (answer asked held))
    ⊎ ((refusal : StoreFault) × (fault ≡ of_store refusal) × IsGot shows finds refuses connects (IsHistoryRead (origin asked)) conn (Err refusal))))

-- The stores of paths, the path, the words, the connection that is handed back, what the writer held before and after, how it went, and the
-- writer's failures before and after: this text is written, or the line of this fault. Of `export` with a number:
abbrev pub PastExported : {C : Type 0} → StoresOf C → List ℕ → List ℕ → ℕ → ZoneForm → Option C → Option (List ℕ) → Option (List ℕ) → Result (Unit {0}) JobFault → ℕ → ℕ → Type 0
PastExported s path word number form conn old new result writes writes_after =
    (made : Result (List ℕ) LineFault)
    × IsToldOf s.shows (of_names (absolute_name word)) (λ origin. origin) (past_text form number) (s.finds path) (s.refuses path) (s.connects path) conn made
    × IsShown made old new result writes writes_after

-- of `export`, where a number is given or not
abbrev pub ExportEnds : {C : Type 0} → StoresOf C → List ℕ → List ℕ → Option ℕ → ZoneForm → Option C → Option (List ℕ) → Option (List ℕ) → Result (Unit {0}) JobFault → ℕ → ℕ → Type 0
ExportEnds s path word None form conn old new result writes writes_after =
    ExportWritten word form old new result writes writes_after × ZoneExported s path word form conn old new result writes writes_after
ExportEnds s path word (Some number) form conn old new result writes writes_after =
    PastExported s path word number form conn old new result writes writes_after

-- of `undo`
abbrev pub UndoPrinted : {C : Type 0} → StoresOf C → List ℕ → List ℕ → Option ℕ → Option ℕ → Option C → Option (List ℕ) → Option (List ℕ) → Result (Unit {0}) JobFault → ℕ → ℕ → Type 0
UndoPrinted s path word first last conn old new result writes writes_after =
    (made : Result (List ℕ) LineFault)
    × IsToldOf s.shows (of_names (absolute_name word)) (λ origin. origin) (undo_text first last) (s.finds path) (s.refuses path) (s.connects path) conn made
    × IsReported made old new result writes writes_after

-- of `blame`
abbrev pub BlamePrinted : {C : Type 0} → StoresOf C → List ℕ → List ℕ → Option (List ℕ) → Option C → Option (List ℕ) → Option (List ℕ) → Result (Unit {0}) JobFault → ℕ → ℕ → Type 0
BlamePrinted s path word name conn old new result writes writes_after =
    (made : Result (List ℕ) LineFault)
    × IsToldOf s.shows (blame_asked word name) (λ asked. asked.origin) (λ asked held. Ok (blame_text asked held)) (s.finds path) (s.refuses path) (s.connects path) conn made
    × IsReported made old new result writes writes_after
