-- What is printed of the log of a zone of a store.
use Rattle.std.specs.Prelude.{◌≡◌, ◌⊎◌, ℕ, Bool, List, Option, Some, None, option_map, map, Result, Ok, Err}
use Rattle.sqlite.specs.State.{State as Shown, HasCleanDisk}
use Rattle.dns_names.specs.Reading.{absolute_name}
use Rattle.zone_core.specs.Changes.{ChangeOf, change_in}
use Rattle.office_model.specs.States.{State, changes_at}
use Rattle.store_rows.specs.declared.ordered.KeptReceipt.{KeptReceipt}
use Rattle.store_faults.specs.declared.store_fault.StoreFault.{StoreFault}
use Rattle.store_faults.specs.declared.store_fault.StoreFault.TheVariants.{NoZone}
use Rattle.store_rows.specs.Listed.{AreReceiptsOf}
use Rattle.store_faults.specs.StoreFaults.{IsFailure}
use Rattle.office_store.specs.Holds.{HoldsState}
use Rattle.office_store.specs.Queries.{AsksOnly}
use Rattle.cli_core.specs.declared.job.LogChoice.{LogChoice}
use Rattle.cli_core.specs.declared.refusal.Refusal.{Refusal}
use Rattle.cli_core.specs.declared.line_fault.LineFault.{LineFault}
use Rattle.cli_core.specs.declared.line_fault.LineFault.TheVariants.{NoMemory}
use Rattle.cli_core.specs.declared.line_fault.JobFault.{JobFault}
use Rattle.cli_core.specs.LineFaults.{◌>>=◌, of_names, of_store, Gives}
use Rattle.cli_text.specs.Rights.{caller_if}
use Rattle.cli_checks.specs.Check.{name_if}
use Rattle.cli_store.specs.declared.log_choice.LogAsked.{LogAsked}
use Rattle.cli_store.specs.declared.store_log.ZoneLog.{ZoneLog}
use Rattle.cli_store.specs.Log.{log_text}
use Rattle.cli_store.specs.Reports.{IsReported}
use Rattle.cli_store.specs.Stores.{StoresOf, IsGot}

-- ---- what the words ask for

-- the origin, the number, the name and the caller
abbrev pub log_asked : List ℕ → LogChoice → Result LogAsked Refusal
log_asked word choice =
    of_names (absolute_name word) >>= λ origin. name_if (option_map (λ w. w.now) choice.name) >>= λ name. caller_if (option_map (λ w. w.now) choice.caller) >>= λ caller.
    Ok (record { origin = origin; from = choice.from; name = name; caller = caller; form = choice.form })

-- ---- what a store has

-- of a zone its changes, and all receipts
pub record LogOf : Type 0 where
  pub changes : List ChangeOf
  pub kept : List KeptReceipt

abbrev pub HasLog : State → List (List ℕ) → Result LogOf StoreFault → Type 0
HasLog s origin (Ok log) = (changes_at s origin ≡ Some log.changes) × AreReceiptsOf s log.kept
HasLog s origin (Err fault) = ((fault ≡ NoZone) × (changes_at s origin ≡ None)) ⊎ IsFailure fault

-- what is read is that of the state that the store holds, which stays as it is
abbrev pub IsLogRead : List (List ℕ) → Shown → Shown → Result LogOf StoreFault → Type 0
IsLogRead origin now after result = AsksOnly now after result × (HasCleanDisk after → (s : State) → HoldsState now s → HasLog s origin result)

-- what the program sees of what it has read
abbrev pub log_in : ZoneLog → LogOf
log_in log = record { changes = map change_in log.changes.items; kept = log.kept.items }

-- ---- the text

-- that of what was read, unless memory runs out; or the store's refusal
abbrev pub IsTextOf : LogAsked → Result LogOf StoreFault → Result (List ℕ) LineFault → Type 0
IsTextOf asked (Ok log) (Ok text) = text ≡ log_text asked log.changes log.kept
IsTextOf asked (Ok log) (Err fault) = fault ≡ NoMemory
IsTextOf asked (Err refusal) made = made ≡ Err (of_store refusal)

-- ---- the job

-- What connections show, the words, what the files say of the path, the connection that is handed back, and the text that was made: of what
-- the store of the path has; or a word was refused, with no store touched; or memory ran out for the text; or the store refused it.
abbrev pub IsLogged : {C : Type 0} → (C → Shown) → List ℕ → LogChoice → (Bool → Type 0) → (StoreFault → Type 0) → (C → Type 0) → Option C → Result (List ℕ) LineFault → Type 0
IsLogged shows word choice finds refuses connects conn (Ok text) =
    (asked : LogAsked) × (log_asked word choice ≡ Ok asked)
    × ((log : LogOf) × IsGot shows finds refuses connects (IsLogRead asked.origin) conn (Ok log) × (text ≡ log_text asked log.changes log.kept))
IsLogged shows word choice finds refuses connects conn (Err fault) =
    (Gives {X = LogAsked} (λ asked. asked) (Err fault) (log_asked word choice) × (conn ≡ None))
    ⊎ ((asked : LogAsked) × (log_asked word choice ≡ Ok asked)
    × (((fault ≡ NoMemory) × ((log : LogOf) × IsGot shows finds refuses connects (IsLogRead asked.origin) conn (Ok log)))
    ⊎ ((refusal : StoreFault) × (fault ≡ of_store refusal) × IsGot shows finds refuses connects (IsLogRead asked.origin) conn (Err refusal))))

-- The stores of paths, the path, the words, the connection that is handed back, what the writer held before and after, how it went, and the
-- writer's failures before and after: this text is written, or the line of this fault.
abbrev pub LogPrinted : {C : Type 0} → StoresOf C → List ℕ → List ℕ → LogChoice → Option C → Option (List ℕ) → Option (List ℕ) → Result (Unit {0}) JobFault → ℕ → ℕ → Type 0
LogPrinted s path word choice conn old new result writes writes_after =
    (made : Result (List ℕ) LineFault) × IsLogged s.shows word choice (s.finds path) (s.refuses path) (s.connects path) conn made
    × IsReported made old new result writes writes_after
