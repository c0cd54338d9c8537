-- What is printed of a zone of a store.
use Rattle.std.specs.Prelude.{◌≡◌, ◌⊎◌, ⊤, ℕ, Bool, List, Option, None, Result, Ok, Err}
use Rattle.std.specs.Result.{result_map_both}
use Rattle.dns_names.specs.Reading.{absolute_name}
use Rattle.dns_data.specs.declared.record.Record.{Record}
use Rattle.cli_core.specs.declared.job.ZoneForm.{ZoneForm}
use Rattle.cli_text.specs.Canon.{zone_text_in}
use Rattle.cli_core.specs.declared.refusal.Refusal.{Refusal}
use Rattle.sqlite.specs.State.{State as Shown}
use Rattle.store_faults.specs.declared.store_fault.StoreFault.{StoreFault}
use Rattle.cli_core.specs.declared.line_fault.LineFault.{LineFault}
use Rattle.cli_core.specs.LineFaults.{◌>>=◌, of_names, of_store, Gives}
use Rattle.cli_core.specs.declared.line_fault.JobFault.{JobFault}
use Rattle.cli_core.specs.Replies.{Answered}
use Rattle.cli_store.specs.Reports.{IsShown}
use Rattle.cli_store.specs.Stores.{StoresOf, IsOfStore, IsHeld}

-- what a store holds of an origin: records, or a refusal of the store
abbrev pub FindsRecords : Result (List Record) Refusal → Type 0
FindsRecords (Ok records) = Unit {0}
FindsRecords (Err refusal) = IsOfStore refusal

-- what is printed: a refusal of the origin, and else the text of what the store holds, in a form
abbrev pub export_text : ZoneForm → List ℕ → Result (List Record) Refusal → Result (List ℕ) Refusal
export_text form word held = of_names (absolute_name word) >>= λ origin. held >>= λ records. Ok (zone_text_in form origin records)

-- What connections show, what the files say of the path, the connection that is handed back, and the origin with the records that were had:
-- the origin's word is one, and these are the records that the store of the path holds of it; or the word was refused, with no store
-- touched; or the store refused them.
abbrev pub IsExported : {C X : Type 0} → (C → Shown) → (X → List Record) → List ℕ → (Bool → Type 0) → (StoreFault → Type 0) → (C → Type 0) → Option C → Result (List (List ℕ) × X) LineFault → Type 0
IsExported shows view word finds refuses connects conn (Ok found) =
    (of_names (absolute_name word) ≡ Ok found.0) × IsHeld shows finds refuses connects view found.0 conn (Ok found.1)
IsExported shows view word finds refuses connects conn (Err fault) =
    (Gives {X = List (List ℕ)} (λ origin. origin) (Err fault) (of_names (absolute_name word)) × (conn ≡ None))
    ⊎ ((origin : List (List ℕ)) × (of_names (absolute_name word) ≡ Ok origin)
    × ((refusal : StoreFault) × (fault ≡ of_store refusal) × IsHeld shows finds refuses connects view origin conn (Err refusal)))

-- ---- the job

-- The origin's word, the form, what the writer held before and after, how it went, and the writer's failures before and after: a refusal
-- of the origin comes before one of the store; and else what is printed is the file of the records that are held.
abbrev pub ExportWritten : List ℕ → ZoneForm → Option (List ℕ) → Option (List ℕ) → Result (Unit {0}) JobFault → ℕ → ℕ → Type 0
ExportWritten word form old new result writes writes_after =
    (held : Result (List Record) Refusal) × FindsRecords held × Answered None (λ _. export_text form word held) old new result ⊤ ⊥ writes writes_after

-- They are those that the store of this path holds, and it is left as it was; and a refusal is that of the files, of what they hold, or of
-- the table.
abbrev pub ZoneExported : {C : Type 0} → StoresOf C → List ℕ → List ℕ → ZoneForm → Option C → Option (List ℕ) → Option (List ℕ) → Result (Unit {0}) JobFault → ℕ → ℕ → Type 0
ZoneExported s path word form conn old new result writes writes_after =
    (made : Result (List (List ℕ) × List Record) LineFault)
    × IsExported s.shows (λ records. records) word (s.finds path) (s.refuses path) (s.connects path) conn made
    × IsShown (result_map_both (λ found. zone_text_in form found.0 found.1) (λ fault. fault) made) old new result writes writes_after
