-- What is written where a zone is put into a store.
use Rattle.std.specs.Prelude.{◌≡◌, ◌⊎◌, ℕ, Bool, List, ◌∷◌, [], ◌++◌, length, codes, decimal, Option, None, Result, Ok, Err}
use Rattle.dns_names.specs.Spelling.{name_text}
use Rattle.sqlite.specs.State.{State as Shown}
use Rattle.zone_core.specs.Sets.{listing}
use Rattle.zone_core.specs.Zones.{ZoneOf, serial_of}
use Rattle.store_faults.specs.declared.store_fault.StoreFault.{StoreFault}
use Rattle.cli_core.specs.declared.job.Existing.{Existing}
use Rattle.cli_core.specs.declared.refusal.Refusal.{Refusal}
use Rattle.cli_core.specs.declared.line_fault.LineFault.{LineFault}
use Rattle.cli_core.specs.declared.line_fault.LineFault.TheVariants.{NoMemory}
use Rattle.cli_core.specs.LineFaults.{◌>>=◌, Makes, GivesOf, of_store}
use Rattle.cli_text.specs.Canon.{zone_read}
use Rattle.cli_core.specs.declared.line_fault.JobFault.{JobFault}
use Rattle.cli_core.specs.Replies.{Answered}
use Rattle.cli_store.specs.Reports.{IsReported}
use Rattle.cli_store.specs.Stores.{StoresOf, IsOfStore, IsStored}

-- its origin, its serial, and how many records it has
abbrev pub imported_line : ZoneOf → List ℕ
imported_line zone =
    codes "imported " ++ name_text zone.origin ++ codes " serial " ++ decimal (serial_of zone) ++ codes " records " ++ decimal (length (listing zone.records)) ++ 10 ∷ []

-- what a store makes of a zone that is put into it: the line of this zone, or a refusal of the store
abbrev pub PutsZone : ZoneOf → Result (List ℕ) Refusal → Type 0
PutsZone zone (Ok line) = line ≡ imported_line zone
PutsZone zone (Err refusal) = IsOfStore refusal

-- and of each zone
abbrev pub PutsZones : (ZoneOf → Result (List ℕ) Refusal) → Type 0
PutsZones put = (zone : ZoneOf) → PutsZone zone (put zone)

-- what is written of an input that is a master file: a refusal of the origin, of the file or of its records as a zone, and else what the
-- store makes of the zone
abbrev pub import_text : List ℕ → (ZoneOf → Result (List ℕ) Refusal) → List ℕ → Result (List ℕ) Refusal
import_text origin put input = zone_read origin input >>= put

-- ---- the store

-- What connections show, what the files say of the path, the zone, the connection that is handed back, and the answer: the zone was put
-- into the store of the path, and this is its line; or memory ran out for the line, with no store touched; or the store refused the zone.
abbrev pub IsPutWithLine : {C : Type 0} → (C → Shown) → (Bool → Type 0) → (StoreFault → Type 0) → (C → Type 0) → Existing → ZoneOf → Option C → Result (List ℕ) LineFault → Type 0
IsPutWithLine shows finds refuses connects existing zone conn (Ok line) =
    IsStored shows finds refuses connects existing zone conn (Ok tt) × (line ≡ imported_line zone)
IsPutWithLine shows finds refuses connects existing zone conn (Err fault) =
    ((fault ≡ NoMemory) × (conn ≡ None)) ⊎ ((refusal : StoreFault) × (fault ≡ of_store refusal) × IsStored shows finds refuses connects existing zone conn (Err refusal))

-- What connections show, what was left to read, the origin's word, what the files say of the path, the connection that is handed back, the
-- answer, that the input did not fail, and that it did: the zone that was read was put so; or none was read, and no store touched.
abbrev pub IsImported : {C : Type 0} → (C → Shown) → Option (List ℕ) → List ℕ → (Bool → Type 0) → (StoreFault → Type 0) → (C → Type 0) → Existing → Option C → Result (List ℕ) LineFault → Type 0 → Type 0 → Type 0
IsImported shows left origin finds refuses connects existing conn (Ok line) fine failed =
    (zone : ZoneOf) × Makes left (zone_read origin) (Ok zone) × fine × IsPutWithLine shows finds refuses connects existing zone conn (Ok line)
IsImported shows left origin finds refuses connects existing conn (Err fault) fine failed =
    (GivesOf {X = ZoneOf} (λ zone. zone) left (zone_read origin) (Err fault) fine failed × (conn ≡ None))
    ⊎ ((zone : ZoneOf) × Makes left (zone_read origin) (Ok zone) × fine × IsPutWithLine shows finds refuses connects existing zone conn (Err fault))

-- ---- the job

-- The origin's word, what was left to read, what the writer held before and after, how it went, that the input did not fail, that it did,
-- and the writer's failures before and after: a refusal of the origin, of the file or of its records comes before one of the store; and
-- where a zone was put, the line is that of the zone that was read.
abbrev pub ImportWritten : List ℕ → Option (List ℕ) → Option (List ℕ) → Option (List ℕ) → Result (Unit {0}) JobFault → Type 0 → Type 0 → ℕ → ℕ → Type 0
ImportWritten origin left old new result fine failed writes writes_after =
    (put : ZoneOf → Result (List ℕ) Refusal) × PutsZones put × Answered left (import_text origin put) old new result fine failed writes writes_after

-- The zone is put into the store of this path, beside the others or in the place of the one of its origin, whole, by the state that was
-- there, and that is what the store is left with; and a refusal is that of the files, of what they hold, or of the table.
abbrev pub ZoneStored : {C : Type 0} → StoresOf C → List ℕ → List ℕ → Existing → Option (List ℕ) → Option C → Option (List ℕ) → Option (List ℕ) → Result (Unit {0}) JobFault → Type 0 → Type 0 → ℕ → ℕ → Type 0
ZoneStored s path origin existing left conn old new result fine failed writes writes_after =
    (made : Result (List ℕ) LineFault) × IsImported s.shows left origin (s.finds path) (s.refuses path) (s.connects path) existing conn made fine failed
    × IsReported made old new result writes writes_after
