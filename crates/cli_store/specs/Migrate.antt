-- What is written of a store that was migrated.
use Rattle.std.specs.Prelude.{◌≡◌, ⊤, ℕ, List, ◌∷◌, [], ◌++◌, codes, decimal, Option, None, Result, Ok, Err}
use Rattle.cli_core.specs.declared.refusal.Refusal.{Refusal}
use Rattle.store_faults.specs.declared.store_fault.StoreFault.{StoreFault}
use Rattle.cli_core.specs.declared.line_fault.LineFault.{LineFault}
use Rattle.cli_core.specs.LineFaults.{of_store}
use Rattle.cli_core.specs.declared.line_fault.JobFault.{JobFault}
use Rattle.cli_core.specs.Replies.{Answered}
use Rattle.cli_store.specs.Reports.{IsReported}
use Rattle.cli_store.specs.Stores.{StoresOf, IsOfStore, IsMigratedStore}

-- how many zones that changed
abbrev pub migrated_line : ℕ → List ℕ
migrated_line zones = codes "migrated " ++ decimal zones ++ 10 ∷ []

-- what a store makes of that: the line of some count, or a refusal of the store
abbrev pub Migrates : Result (List ℕ) Refusal → Type 0
Migrates (Ok line) = (zones : ℕ) × (line ≡ migrated_line zones)
Migrates (Err refusal) = IsOfStore refusal

-- the line of the count, or the fault by which the store refuses
abbrev pub migration_told : Result ℕ StoreFault → Result (List ℕ) LineFault
migration_told (Ok zones) = Ok (migrated_line zones)
migration_told (Err fault) = Err (of_store fault)

-- ---- the job

-- what the writer held before and after, how it went, and the writer's failures before and after: the line of a migration is written
abbrev pub MigrationWritten : Option (List ℕ) → Option (List ℕ) → Result (Unit {0}) JobFault → ℕ → ℕ → Type 0
MigrationWritten old new result writes writes_after =
    (made : Result (List ℕ) Refusal) × Migrates made × Answered None (λ _. made) old new result ⊤ ⊥ writes writes_after

-- It is the store of this path, which is left so; and a refusal is that of the files, or of what they hold.
abbrev pub StoreMigrated : {C : Type 0} → StoresOf C → List ℕ → Option C → Option (List ℕ) → Option (List ℕ) → Result (Unit {0}) JobFault → ℕ → ℕ → Type 0
StoreMigrated s path conn old new result writes writes_after =
    (made : Result ℕ StoreFault) × IsMigratedStore s.shows (s.finds path) (s.refuses path) (s.connects path) conn made
    × IsReported (migration_told made) old new result writes writes_after
