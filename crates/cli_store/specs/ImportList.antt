-- Putting the zones of a list into a store, one after the other: what becomes of each, what is written, and what the store holds then.
use Rattle.std.specs.Prelude.{◌≡◌, ◌⊎◌, ⊤, ℕ, true, false, List, [], ◌∷◌, ◌++◌, codes, is_some, Option, None, Result, Ok, Err}
use Rattle.std.specs.List.{flat_map}
use Rattle.std.specs.Io.KnownBytes.{Appends}
use Rattle.dns_names.specs.Spelling.{name_text}
use Rattle.sqlite.specs.State.{State as Shown, HasCleanDisk}
use Rattle.zone_core.specs.Zones.{ZoneOf}
use Rattle.office_model.specs.States.{State}
use Rattle.store_faults.specs.declared.store_fault.StoreFault.{StoreFault}
use Rattle.store_faults.specs.StoreFaults.{IsFailure}
use Rattle.office_store.specs.Holds.{HoldsState, LeavesStates}
use Rattle.cli_core.specs.Inputs.{InputOf}
use Rattle.cli_core.specs.LineFaults.{Gives, Makes, GivesOf, of_store}
use Rattle.cli_core.specs.Replies.{IsRefusalWritten}
use Rattle.cli_core.specs.declared.commands.import.ImportList.{ImportList}
use Rattle.cli_core.specs.declared.job.Existing.{Existing}
use Rattle.cli_core.specs.declared.job.Existing.TheVariants.{Kept}
use Rattle.cli_core.specs.declared.line_fault.JobFault.{JobFault}
use Rattle.cli_core.specs.declared.line_fault.LineFault.{LineFault}
use Rattle.cli_text.specs.Canon.{zone_read}
use Rattle.wire_tcp.specs.Connections.{Writing}
use Rattle.cli_store.specs.Around.{Around}
use Rattle.cli_store.specs.Import.{imported_line}
use Rattle.cli_store.specs.Puts.{put_into, with_put}
use Rattle.cli_store.specs.Reports.{IsReported}
use Rattle.cli_store.specs.Stores.{StoresOf, IsLeft, IsPut, IsReached, IsUnreached}
use Rattle.cli_store.specs.ZoneFiles.{ZoneFileOf, zone_files_of, zone_files_read}

-- ---- what becomes of a zone of the list

-- one of its origin was in the store already, and stayed; or it came from its file
pub data Passed : Type 0 where
  stayed : List (List ℕ) → Passed
  came : ZoneOf → Passed

-- a zone that stays has its origin, and only where none is replaced; one that comes is that of its file
abbrev pub IsOf : {H : Type 0} → Around H → Existing → ZoneFileOf → Passed → Type 0
IsOf a existing zone (stayed origin) = (existing ≡ Kept) × (origin ≡ zone.origin)
IsOf a existing zone (came it) = Makes (a.file zone.path) (zone_read zone.word) (Ok it)

-- these became of the first zones of a list, and the later ones were not reached
abbrev pub ArePassed : {H : Type 0} → Around H → Existing → List ZoneFileOf → List Passed → List ZoneFileOf → Type 0
ArePassed a existing zones [] later = later ≡ zones
ArePassed a existing [] (one ∷ done) later = ⊥
ArePassed a existing (zone ∷ zones) (one ∷ done) later = IsOf a existing zone one × ArePassed a existing zones done later

-- ---- what is written

-- the origin of a zone that stayed
abbrev pub kept_line : List (List ℕ) → List ℕ
kept_line origin = codes "kept " ++ name_text origin ++ 10 ∷ []

abbrev pub passed_line : Passed → List ℕ
passed_line (stayed origin) = kept_line origin
passed_line (came zone) = imported_line zone

abbrev pub passed_lines : List Passed → List ℕ
passed_lines done = flat_map passed_line done

-- The line of each zone that was passed, in order, and then nothing: all were passed, or the writer failed.
abbrev pub AreAllTold : List Passed → List ZoneFileOf → Writing → Result (Unit {0}) JobFault → Type 0
AreAllTold done later o outcome = IsReported (Ok (passed_lines done)) o.old o.new outcome o.before o.after × (outcome ≡ Ok tt → later ≡ [])

-- The line of each zone that was passed, in order, and then the line of why the next one was not.
pub record IsStopTold (done : List Passed) (later : List ZoneFileOf) (o : Writing) (outcome : Result (Unit {0}) JobFault) : Type 0 where
  pub zone : ZoneFileOf
  pub rest : List ZoneFileOf
  pub next : later ≡ zone ∷ rest
  pub fault : LineFault
  pub sent : Option (List ℕ)
  pub lines : Appends o.old sent (passed_lines done)
  pub line : IsRefusalWritten sent o.new fault outcome o.before o.after

-- ---- what the store holds

-- a zone is there and stays, or the store can take the one that comes
abbrev pub Takes : Existing → State → Passed → Type 0
Takes existing s (stayed origin) = is_some (s.zones origin) ≡ true
Takes existing s (came zone) = put_into existing s zone ≡ Ok zone

-- the state after it
abbrev pub state_passed : Existing → State → Passed → State
state_passed existing s (stayed origin) = s
state_passed existing s (came zone) = with_put existing s zone

-- each at its turn, and the state after all of them
abbrev pub TakesAll : Existing → State → List Passed → Type 0
TakesAll existing s [] = Unit {0}
TakesAll existing s (one ∷ done) = Takes existing s one × TakesAll existing (state_passed existing s one) done

abbrev pub states_passed : Existing → State → List Passed → State
states_passed existing s [] = s
states_passed existing s (one ∷ done) = states_passed existing (state_passed existing s one) done

-- What connections show before and after: the store could take each zone at its turn, and holds the state after all of them; and a crash
-- leaves that.
pub record TurnsTo (existing : Existing) (done : List Passed) (now after : Shown) : Type 0 where
  pub made : HasCleanDisk after → (s : State) → HoldsState now s → TakesAll existing s done × HoldsState after (states_passed existing s done)
  pub left : HasCleanDisk after → (s : State) → HoldsState now s → LeavesStates now s s
      → LeavesStates after (states_passed existing s done) (states_passed existing s done)
  pub honest : HasCleanDisk after → HasCleanDisk now

-- the state that was held is held, and a crash leaves what it left of it
pub record Stays (now after : Shown) : Type 0 where
  pub same : (s : State) → HoldsState now s → HoldsState after s
  pub crash : (s t : State) → LeavesStates now s t → LeavesStates after s t
  pub honest : HasCleanDisk after → HasCleanDisk now

-- ---- one zone

-- its file is asked for: a zone of its origin is to be replaced, or there is none
abbrev pub IsAskedFor : Existing → ZoneFileOf → Shown → Shown → Type 0
IsAskedFor existing zone now after = existing ≡ Kept → HasCleanDisk after → (s : State) → HoldsState now s → is_some (s.zones zone.origin) ≡ false

-- the file was refused, or not read, or is no zone, and the store holds what it held; or the table refused the zone of the file
abbrev pub IsUnput : {H : Type 0} → Around H → Existing → ZoneFileOf → Shown → Shown → LineFault → Type 0
IsUnput a existing zone now after fault =
    (GivesOf {X = ZoneOf} (λ it. it) (a.file zone.path) (zone_read zone.word) (Err fault) ⊤ (a.unreadable zone.path) × Stays now after)
    ⊎ ((it : ZoneOf) × Makes (a.file zone.path) (zone_read zone.word) (Ok it) × (refusal : StoreFault) × (fault ≡ of_store refusal) × IsPut existing it now after (Err refusal))

-- why it was not passed: the store failed or memory ran out, with nothing put; or its file was asked for, and it was not put
abbrev pub IsNotPassed : {H : Type 0} → Around H → Existing → ZoneFileOf → Shown → Shown → LineFault → Type 0
IsNotPassed a existing zone now after fault =
    ((refusal : StoreFault) × IsFailure refusal × (fault ≡ of_store refusal) × Stays now after)
    ⊎ (IsAskedFor existing zone now after × IsUnput a existing zone now after fault)

-- what came of its file, where that was asked for: the zone was put, and this is its line, or the fault that was met
abbrev pub IsPutFrom : {H : Type 0} → Around H → Existing → ZoneFileOf → Shown → Shown → Result (List ℕ) LineFault → Type 0
IsPutFrom a existing zone now after (Ok line) =
    (it : ZoneOf) × Makes (a.file zone.path) (zone_read zone.word) (Ok it) × IsPut existing it now after (Ok tt) × (line ≡ imported_line it)
IsPutFrom a existing zone now after (Err fault) =
    ((refusal : StoreFault) × IsFailure refusal × (fault ≡ of_store refusal) × Stays now after) ⊎ IsUnput a existing zone now after fault

-- what the connection showed before and after, and its line, or the fault that was met
abbrev pub Passes : {H : Type 0} → Around H → Existing → ZoneFileOf → Shown → Shown → Result (List ℕ) LineFault → Type 0
Passes a existing zone now after (Ok line) = (one : Passed) × IsOf a existing zone one × TurnsTo existing (one ∷ []) now after × (line ≡ passed_line one)
Passes a existing zone now after (Err fault) = IsNotPassed a existing zone now after fault

-- the line is written, or that of the fault
abbrev pub IsPassedBy : {H : Type 0} → Around H → Existing → ZoneFileOf → Shown → Shown → Writing → Result (Unit {0}) JobFault → Type 0
IsPassedBy a existing zone now after o outcome =
    (made : Result (List ℕ) LineFault) × Passes a existing zone now after made × IsReported made o.old o.new outcome o.before o.after

-- ---- the list

-- What connections show, what is around, the zones of the list, the connection before and after, what was written, and how it went: the
-- first zones were passed; and either all were told, or the writer failed; or the next zone was refused, and that is told.
pub record ArePut {C H : Type 0} (shows : C → Shown) (a : Around H) (existing : Existing) (zones : List ZoneFileOf) (now after : C) (o : Writing) (outcome : Result (Unit {0}) JobFault) : Type 0 where
  pub done : List Passed
  pub later : List ZoneFileOf
  pub passed : ArePassed a existing zones done later
  pub mid : C
  pub turned : TurnsTo existing done (shows now) (shows mid)
  pub end : ((after ≡ mid) × AreAllTold done later o outcome)
      ⊎ ((stop : IsStopTold done later o outcome) × IsNotPassed a existing stop.zone (shows mid) (shows after) stop.fault)

-- The same in the store of a path, once that is reached, after which comes the connection that is handed back; or it is not reached, and
-- that is told.
abbrev pub ArePutInto : {C H : Type 0} → StoresOf C → List ℕ → Around H → Existing → List ZoneFileOf → Option C → Writing → Result (Unit {0}) JobFault → Type 0
ArePutInto {C} s path a existing zones left o outcome =
    ((refusal : StoreFault) × IsUnreached s.shows (s.finds path) (s.refuses path) (s.connects path) existing left refusal
    × IsRefusalWritten o.old o.new (of_store refusal) outcome o.before o.after)
    ⊎ ((now : C) × IsReached s.shows (s.connects path) existing now × IsLeft left (λ after. ArePut s.shows a existing zones now after o outcome))

-- The zones of a text: it is refused, and that is told, with no store touched; or they are put into the store of the path.
abbrev pub TextImported : {C H : Type 0} → Around H → StoresOf C → ImportList → List ℕ → Option C → Writing → Result (Unit {0}) JobFault → Type 0
TextImported a s w text left o outcome =
    ((fault : LineFault) × Gives {X = List ZoneFileOf} (λ zones. zones) (Err fault) (zone_files_of text)
    × IsRefusalWritten o.old o.new fault outcome o.before o.after × (left ≡ None))
    ⊎ ((zones : List ZoneFileOf) × (zone_files_of text ≡ Ok zones) × ArePutInto s w.store.now a w.existing zones left o outcome)

-- The list is read first: it is refused, or not read, and that is told, with no store touched.
abbrev pub ListImported : {C H : Type 0} → Around H → StoresOf C → ImportList → InputOf → Option C → Writing → Result (Unit {0}) JobFault → Type 0
ListImported a s w list left o outcome =
    ((fault : LineFault) × GivesOf {X = List ZoneFileOf} (λ zones. zones) list.left zone_files_read (Err fault) list.fine list.failed
    × IsRefusalWritten o.old o.new fault outcome o.before o.after × (left ≡ None))
    ⊎ ((zones : List ZoneFileOf) × Makes list.left zone_files_read (Ok zones) × list.fine × ArePutInto s w.store.now a w.existing zones left o outcome)
