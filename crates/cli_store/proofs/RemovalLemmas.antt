-- A zone that is taken out of the store of a path, step by step.
use Rattle.std.proofs.Common.{◌≡◌, inl, inr, ℕ, Bool, List, Option, Some, None, option_map, Result, Ok, Err, refl, sym, ap, subst, ◌∙◌}
use Rattle.std.specs.Bool.{⊤}
use Rattle.std.specs.Result.{result_map_both}
use Rattle.sqlite.specs.State.{State as Shown, HasCleanDisk}
use Rattle.dns_names.specs.Reading.{absolute_name}
use Rattle.zone_core.specs.Zones.{ZoneOf, serial_of}
use Rattle.office_model.specs.States.{Held, State, zone_held, zone_at}
use Rattle.store_rows.specs.Removals.{without_zone}
use Rattle.store_faults.specs.StoreFaults.{IsFailure, Refuses}
use Rattle.store_faults.specs.declared.store_fault.StoreFault.{StoreFault}
use Rattle.store_faults.specs.declared.store_fault.StoreFault.TheVariants as stores
use Rattle.office_store.specs.Holds.{HoldsState}
use Rattle.office_store.specs.Queries.{Asked}
use Rattle.office_store.specs.Turns.{Turns}
use Rattle.office_store.specs.Zones.{removed}
use Rattle.office_store.proofs.TurnLemmas.{refused, turned_then, handed_ok, handed_err}
use Rattle.cli_core.specs.declared.refusal.Refusal.{Refusal}
use Rattle.cli_core.specs.declared.line_fault.JobFault.{JobFault}
use Rattle.cli_core.specs.declared.line_fault.LineFault.{LineFault}
use Rattle.cli_core.specs.declared.line_fault.LineFault.TheVariants.{Refused, ReadFailed, NoMemory}
use Rattle.cli_core.specs.LineFaults.{◌>>=◌, of_names, of_store, Gives}
use Rattle.cli_core.proofs.StepLemmas.{given_before}
use Rattle.cli_store.specs.Remove.{removed_line, RemovesEach, serial_held, removal, IsTakenOut, IsRemoved, RemovalWritten, ZoneRemoved}
use Rattle.cli_store.specs.Reports.{IsReported}
use Rattle.cli_store.specs.Stores.{StoresOf, IsStoreLine, IsGot}
use Rattle.cli_store.proofs.HistoryLemmas.{no_zone_held}
use Rattle.cli_store.proofs.StoreLemmas.{line_of_store, word_refused, gives_at_once, reported_answered}

-- ---- faults of a table

-- what is given is refused only where the store failed or memory ran out
pub taken_fails : {Y : Type 0} (refusal : StoreFault) (y : Y) → Refuses {Y = Y} refusal (Ok y) → IsFailure refusal
taken_fails (stores.Store cause) y e = tt
taken_fails stores.NoMemory y e = tt
taken_fails refusal y e = absurd (cc e)

-- a refusal is that of what is made of it too
refused_in : {A B : Type 0} (f : A → B) (refusal : StoreFault) (told : Result A StoreFault) → Refuses {Y = A} refusal told → Refuses {Y = B} refusal (result_map_both f (λ fault. fault) told)
refused_in f (stores.Store cause) told is = tt
refused_in f stores.NoMemory told is = tt
refused_in f refusal told is = ap (result_map_both f (λ fault. fault)) is

-- ---- the serial

serial_is : (origin : List (List ℕ)) (o : Option Held) (zone : ZoneOf) → Some zone ≡ option_map (zone_held origin) o → serial_held origin o ≡ Ok (serial_of zone)
serial_is origin None zone there = absurd (cc there)
serial_is origin (Some held) zone there =
    let z : zone_held origin held ≡ zone = cc there in ap (λ (it : ZoneOf). let r : Result ℕ StoreFault = Ok (serial_of it) in r) z

pub serial_found : (s : State) (origin : List (List ℕ)) (zone : ZoneOf) → Some zone ≡ zone_at s origin → serial_held origin (s.zones origin) ≡ Ok (serial_of zone)
serial_found s origin zone there = serial_is origin (s.zones origin) zone there

pub serial_missing : (s : State) (origin : List (List ℕ)) → None ≡ zone_at s origin → serial_held origin (s.zones origin) ≡ Err stores.NoZone
serial_missing s origin none = ap (serial_held origin) (no_zone_held s origin none)

-- ---- a table from which the zone is taken out, once its serial is known

-- a table that has the zone refuses only where the store failed or memory ran out
had_fails : (origin : List (List ℕ)) (o : Option Held) (serial : ℕ) (refusal : StoreFault) → serial_held origin o ≡ Ok serial → Refuses {Y = Unit {0}} refusal (removed o) → IsFailure refusal
had_fails origin None serial refusal found is = absurd (cc found)
had_fails origin (Some held) serial refusal found is = taken_fails refusal tt is

fails_so : {Y : Type 0} (refusal : StoreFault) (told : Result Y StoreFault) → IsFailure refusal → Refuses {Y = Y} refusal told
fails_so (stores.Store cause) told is = tt
fails_so stores.NoMemory told is = tt
fails_so refusal told is = absurd is

-- no serial was had
pub not_found : (origin : List (List ℕ)) (old new : Shown) (refusal : StoreFault) → Asked old new
    → (HasCleanDisk new → (s : State) → HoldsState old s → Refuses {Y = ℕ} refusal (serial_held origin (s.zones origin))) → IsTakenOut origin old new (Err refusal)
not_found origin old new refusal asked told =
    (refused old new refusal (λ s. without_zone s origin) asked, (λ clean s h. refused_in (removed_line origin) refusal (serial_held origin (s.zones origin)) (told clean s h)), tt)

-- there was no memory for its line
pub unmade : (origin : List (List ℕ)) (old new : Shown) (refusal : StoreFault) → Asked old new → IsFailure refusal → IsTakenOut origin old new (Err refusal)
unmade origin old new refusal asked failed =
    (refused old new refusal (λ s. without_zone s origin) asked, (λ clean s h. fails_so refusal (removal origin (s.zones origin)) failed), tt)

module _ (origin : List (List ℕ)) (old mid new : Shown) (serial : ℕ) (asked : Asked old mid)
    (found : HasCleanDisk mid → (s : State) → HoldsState old s → serial_held origin (s.zones origin) ≡ Ok serial) where
  -- it went
  pub went : (done : Unit {0}) (line : List ℕ) → line ≡ removed_line origin serial → Turns {X = Unit {0}} {E = StoreFault} mid new (Ok done) (λ s. without_zone s origin)
      → IsTakenOut origin old new (Ok line)
  went done line same turns = (
    handed_ok old new done line (λ s. without_zone s origin) (turned_then old mid new (Ok done) (λ s. without_zone s origin) asked turns),
    (λ clean s h. ap (result_map_both (removed_line origin) (λ fault. fault)) (found (turns.honest clean) s h) ∙ ap (λ (l : List ℕ). let r : Result (List ℕ) StoreFault = Ok l in r) (sym same)),
    (serial, same),
  )

  -- it was refused
  pub stayed : (refusal : StoreFault) → Turns {X = Unit {0}} {E = StoreFault} mid new (Err refusal) (λ s. without_zone s origin)
      → (HasCleanDisk new → (s : State) → HoldsState mid s → Refuses {Y = Unit {0}} refusal (removed (s.zones origin))) → IsTakenOut origin old new (Err refusal)
  stayed refusal turns told = (
    handed_err {X = Unit {0}} {Y = List ℕ} old new refusal (Err refusal) (λ s. without_zone s origin) refl (turned_then old mid new (Err refusal) (λ s. without_zone s origin) asked turns),
    (λ clean s h. fails_so refusal (removal origin (s.zones origin)) (had_fails origin (s.zones origin) serial refusal (found (turns.honest clean) s h) (told clean s (asked.same s h)))),
    tt,
  )

-- ---- the store of a path

-- a zone was taken out of the store of an origin that was read, or refused
pub removed_there : {C X : Type 0} (shows : C → Shown) (finds : Bool → Type 0) (refuses : StoreFault → Type 0) (connects : C → Type 0) (view : X → List ℕ) (word : List ℕ) (origin : List (List ℕ))
    (conn : Option C) (r : Result X StoreFault) → of_names (absolute_name word) ≡ Ok origin
    → IsGot shows finds refuses connects (λ now after x. IsTakenOut origin now after (result_map_both view (λ fault. fault) x)) conn r
    → IsRemoved shows word finds refuses connects conn (result_map_both view (λ fault. fault) (result_map_both (λ line. line) of_store r))
removed_there shows finds refuses connects view word origin conn (Ok line) e got = (origin, e, got)
removed_there shows finds refuses connects view word origin conn (Err refusal) e got = inr (origin, e, (refusal, refl, got))

-- ---- what is written

-- what a store made of each origin, where it reported this fault
abbrev removed_by : LineFault → List (List ℕ) → Result (List ℕ) Refusal
removed_by (Refused refusal) origin = Err refusal
removed_by fault origin = Ok (removed_line origin 0)

removes_by : (fault : LineFault) → IsStoreLine fault → RemovesEach (removed_by fault)
removes_by (Refused refusal) is = λ origin. is
removes_by NoMemory is = λ origin. (0, refl)
removes_by ReadFailed is = absurd is

gives_by : (first : Result (List (List ℕ)) Refusal) (origin : List (List ℕ)) (fault : LineFault) → first ≡ Ok origin → IsStoreLine fault
    → Gives {X = List ℕ} (λ line. line) (Err fault) (first >>= removed_by fault)
gives_by first origin (Refused refusal) e is = given_before first (λ (o : List (List ℕ)). let r : Result (List ℕ) Refusal = Err refusal in r) origin e
gives_by first origin NoMemory e is = tt
gives_by first origin ReadFailed e is = absurd is

-- what a store makes of origins, where a zone was taken out or not
removal_gives : {C : Type 0} (shows : C → Shown) (word : List ℕ) (finds : Bool → Type 0) (refuses : StoreFault → Type 0) (connects : C → Type 0) (conn : Option C) (made : Result (List ℕ) LineFault)
    → IsRemoved shows word finds refuses connects conn made
    → (remove : List (List ℕ) → Result (List ℕ) Refusal) × RemovesEach remove × Gives {X = List ℕ} (λ line. line) made (of_names (absolute_name word) >>= remove)
removal_gives shows word finds refuses connects conn (Ok line) (origin, e, (now, opened, (after, left, takes))) =
    let serial = takes.2.0 in
    let remove = λ (o : List (List ℕ)). let r : Result (List ℕ) Refusal = Ok (removed_line o serial) in r in (
      remove,
      (λ o. (serial, refl)),
      given_before (of_names (absolute_name word)) remove origin e ∙ ap (λ (l : List ℕ). let r : Result (List ℕ) Refusal = Ok l in r) (sym takes.2.1),
    )
removal_gives shows word finds refuses connects conn (Err fault) (inl refused) =
    let remove = λ (o : List (List ℕ)). let r : Result (List ℕ) Refusal = Ok (removed_line o 0) in r in (
      remove,
      (λ o. (0, refl)),
      word_refused (λ (line : List ℕ). line) (λ (name : List (List ℕ)). name) (of_names (absolute_name word)) remove fault refused.0,
    )
removal_gives shows word finds refuses connects conn (Err fault) (inr (origin, e, (refusal, fault_is, got))) =
    let named = subst IsStoreLine (sym fault_is) (line_of_store refusal) in
    (removed_by fault, removes_by fault named, gives_by (of_names (absolute_name word)) origin fault e named)

pub removal_told : {C : Type 0} (s : StoresOf C) (path word : List ℕ) (conn : Option C) (old new : Option (List ℕ)) (result : Result (Unit {0}) JobFault) (writes writes_after : ℕ) (made : Result (List ℕ) LineFault)
    → IsRemoved s.shows word (s.finds path) (s.refuses path) (s.connects path) conn made → IsReported made old new result writes writes_after
    → RemovalWritten word old new result writes writes_after × ZoneRemoved s path word conn old new result writes writes_after
removal_told s path word conn old new result writes writes_after made is told =
    let x = removal_gives s.shows word (s.finds path) (s.refuses path) (s.connects path) conn made is in
    let text = of_names (absolute_name word) >>= x.0 in
    ((x.0, x.1, reported_answered None (λ _. text) old new ⊤ ⊥ writes writes_after made result (gives_at_once text made x.2) told), (made, is, told))
