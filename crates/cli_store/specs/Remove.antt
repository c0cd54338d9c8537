-- What is written where a zone is taken out of a store, and what the store holds then.
use Rattle.std.specs.Prelude.{◌≡◌, ◌⊎◌, ⊤, ℕ, Bool, List, ◌∷◌, [], ◌++◌, codes, decimal, Option, Some, None, Result, Ok, Err, IfOk}
use Rattle.std.specs.Result.{result_map_both}
use Rattle.dns_names.specs.Reading.{absolute_name}
use Rattle.dns_names.specs.Spelling.{name_text}
use Rattle.sqlite.specs.State.{State as Shown, HasCleanDisk}
use Rattle.zone_core.specs.Zones.{serial_of}
use Rattle.office_model.specs.States.{Held, State, zone_held}
use Rattle.store_rows.specs.Removals.{without_zone}
use Rattle.store_faults.specs.StoreFaults.{Gives as Answers}
use Rattle.store_faults.specs.declared.store_fault.StoreFault.{StoreFault}
use Rattle.store_faults.specs.declared.store_fault.StoreFault.TheVariants.{NoZone}
use Rattle.office_store.specs.Holds.{HoldsState}
use Rattle.office_store.specs.Turns.{Turns}
use Rattle.cli_core.specs.declared.refusal.Refusal.{Refusal}
use Rattle.cli_core.specs.declared.line_fault.JobFault.{JobFault}
use Rattle.cli_core.specs.declared.line_fault.LineFault.{LineFault}
use Rattle.cli_core.specs.LineFaults.{◌>>=◌, of_names, of_store, Gives}
use Rattle.cli_core.specs.Replies.{Answered}
use Rattle.cli_store.specs.Reports.{IsReported}
use Rattle.cli_store.specs.Stores.{StoresOf, IsOfStore, IsGot}

-- its origin, and the serial that it had
abbrev pub removed_line : List (List ℕ) → ℕ → List ℕ
removed_line origin serial = codes "removed " ++ name_text origin ++ codes " serial " ++ decimal serial ++ 10 ∷ []

-- what a store makes of an origin: the line of a zone that had some serial, or a refusal of the store
abbrev pub Removes : List (List ℕ) → Result (List ℕ) Refusal → Type 0
Removes origin (Ok line) = (serial : ℕ) × (line ≡ removed_line origin serial)
Removes origin (Err refusal) = IsOfStore refusal

-- and of each origin
abbrev pub RemovesEach : (List (List ℕ) → Result (List ℕ) Refusal) → Type 0
RemovesEach remove = (origin : List (List ℕ)) → Removes origin (remove origin)

-- ---- the store

-- the serial of what is held of an origin
abbrev pub serial_held : List (List ℕ) → Option Held → Result ℕ StoreFault
serial_held origin None = Err NoZone
serial_held origin (Some held) = Ok (serial_of (zone_held origin held))

-- the line of the zone that is held of an origin, and is taken out
abbrev pub removal : List (List ℕ) → Option Held → Result (List ℕ) StoreFault
removal origin held = result_map_both (removed_line origin) (λ fault. fault) (serial_held origin held)

-- The zone of an origin is taken out of the store, with its records and its changes, and this is its line; or the table's own refusal
-- comes, and `NoZone` where there is no such zone: what the connection showed before and after. On any disk the line is one of this origin.
abbrev pub IsTakenOut : List (List ℕ) → Shown → Shown → Result (List ℕ) StoreFault → Type 0
IsTakenOut origin now after result =
    Turns now after result (λ s. without_zone s origin)
    × (HasCleanDisk after → (s : State) → HoldsState now s → Answers {X = List ℕ} (λ line. line) result (removal origin (s.zones origin)))
    × IfOk result (λ line. (serial : ℕ) × (line ≡ removed_line origin serial))

-- What connections show, the origin's word, what the files say of the path, the connection that is handed back, and the answer: the word is
-- that of an origin, whose zone was taken out of the store of the path, and this is its line; or the word was refused, with no store
-- touched; or the store refused it.
abbrev pub IsRemoved : {C : Type 0} → (C → Shown) → List ℕ → (Bool → Type 0) → (StoreFault → Type 0) → (C → Type 0) → Option C → Result (List ℕ) LineFault → Type 0
IsRemoved shows word finds refuses connects conn (Ok line) =
    (origin : List (List ℕ)) × (of_names (absolute_name word) ≡ Ok origin) × IsGot shows finds refuses connects (IsTakenOut origin) conn (Ok line)
IsRemoved shows word finds refuses connects conn (Err fault) =
    (Gives {X = List (List ℕ)} (λ origin. origin) (Err fault) (of_names (absolute_name word)) × (conn ≡ None))
    ⊎ ((origin : List (List ℕ)) × (of_names (absolute_name word) ≡ Ok origin)
    × ((refusal : StoreFault) × (fault ≡ of_store refusal) × IsGot shows finds refuses connects (IsTakenOut origin) conn (Err refusal)))

-- ---- the job

-- The origin's word, what the writer held before and after, how it went, and the writer's failures before and after: a refusal of the origin
-- comes before one of the store; and where a zone was taken out, the line is one of this origin.
abbrev pub RemovalWritten : List ℕ → Option (List ℕ) → Option (List ℕ) → Result (Unit {0}) JobFault → ℕ → ℕ → Type 0
RemovalWritten word old new result writes writes_after =
    (remove : List (List ℕ) → Result (List ℕ) Refusal) × RemovesEach remove
    × Answered None (λ _. of_names (absolute_name word) >>= remove) old new result ⊤ ⊥ writes writes_after

-- The zone is taken out of the store of this path, whole, by the state that was there, and the line tells the serial that it had; and a
-- refusal is that of the files, of what they hold, or of the table, and leaves the store as it was.
abbrev pub ZoneRemoved : {C : Type 0} → StoresOf C → List ℕ → List ℕ → Option C → Option (List ℕ) → Option (List ℕ) → Result (Unit {0}) JobFault → ℕ → ℕ → Type 0
ZoneRemoved s path word conn old new result writes writes_after =
    (made : Result (List ℕ) LineFault) × IsRemoved s.shows word (s.finds path) (s.refuses path) (s.connects path) conn made
    × IsReported made old new result writes writes_after
