-- What is written of a store that refuses something.
use Rattle.std.proofs.Common.{◌≡◌, inl, inr, ℕ, Bool, List, [], Option, None, Result, Ok, Err, refl, sym, ap, subst, ◌∙◌}
use Rattle.std.specs.Bool.{⊤}
use Rattle.sqlite.specs.State.{State as Shown}
use Rattle.dns_names.specs.Reading.{absolute_name}
use Rattle.cli_core.specs.declared.job.ZoneForm.{ZoneForm}
use Rattle.cli_text.specs.Canon.{zone_text_in}
use Rattle.cli_core.specs.declared.job.Existing.{Existing}
use Rattle.dns_data.specs.declared.record.Record.{Record}
use Rattle.zone_core.specs.declared.faults.ZoneFault.{ZoneFault}
use Rattle.zone_core.specs.declared.faults.ZoneFault.TheVariants as zones
use Rattle.zone_core.specs.Zones.{ZoneOf}
use Rattle.store_faults.specs.declared.store_fault.StoreFault.{StoreFault}
use Rattle.store_faults.specs.declared.store_fault.StoreFault.TheVariants as stores
use Rattle.cli_core.specs.declared.refusal.Refusal.{Refusal}
use Rattle.cli_core.specs.declared.line_fault.LineFault.{LineFault}
use Rattle.cli_core.specs.declared.line_fault.LineFault.TheVariants.{Refused, ReadFailed, NoMemory}
use Rattle.cli_text.specs.Canon.{zone_read}
use Rattle.cli_core.specs.LineFaults.{◌>>=◌, Gives, Makes, GivesOf, of_names, of_zone, of_store}
use Rattle.cli_core.proofs.StepLemmas.{refused_before, given_before, reached_before}
use Rattle.cli_store.specs.Stores.{StoresOf, IsStoreLine}
use Rattle.cli_store.specs.Import.{imported_line, PutsZones, import_text, IsImported, ImportWritten, ZoneStored}
use Rattle.cli_store.specs.Export.{FindsRecords, export_text, IsExported, ExportWritten, ZoneExported}
use Rattle.cli_store.proofs.FilesLemmas.{seen_exported}
use Rattle.cli_store.specs.Migrate.{Migrates, migrated_line, migration_told}
use Rattle.cli_store.specs.Reports.{IsReported, IsShown}
use Rattle.std.specs.Result.{result_map_both}
use Rattle.cli_core.specs.declared.line_fault.JobFault.{JobFault}
use Rattle.cli_core.specs.declared.line_fault.JobFault.TheVariants.{Reported, WriteFailed}
use Rattle.cli_core.specs.Replies.{Answered}
use Rattle.cli_core.proofs.JobLemmas.{answered_sent, answered_front, answered_told, answered_printed}

zone_line : (fault : ZoneFault) → IsStoreLine (of_zone fault)
zone_line zones.NoMemory = tt
zone_line fault = tt

pub line_of_store : (fault : StoreFault) → IsStoreLine (of_store fault)
line_of_store stores.NoMemory = tt
line_of_store (stores.Zone fault) = zone_line fault
line_of_store fault = tt

-- ---- a zone that is put into a store

-- what a store made of each zone, where it reported this fault
abbrev pub put_by : LineFault → ZoneOf → Result (List ℕ) Refusal
put_by (Refused refusal) zone = Err refusal
put_by fault zone = Ok (imported_line zone)

pub puts_by : (fault : LineFault) → IsStoreLine fault → PutsZones (put_by fault)
puts_by (Refused refusal) is = λ zone. is
puts_by NoMemory is = λ zone. refl
puts_by ReadFailed is = absurd is

module _ (left : Option (List ℕ)) (make : List ℕ → Result ZoneOf Refusal) (fine failed : Type 0) where
  -- the input is refused, or not read
  pub read_refused : {X Z : Type 0} (view : X → List ℕ) (seen : Z → ZoneOf) (put : ZoneOf → Result (List ℕ) Refusal) (fault : LineFault)
      → GivesOf seen left make (Err fault) fine failed → GivesOf view left (λ input. make input >>= put) (Err fault) fine failed
  read_refused view seen put (Refused refusal) given = ((given.0.0, given.0.1, refused_before (make given.0.0) put refusal given.0.2), given.1)
  read_refused view seen put ReadFailed given = (given.0, reached_before make put given.1)
  read_refused view seen put NoMemory given = given

  -- the store refuses the zone
  pub put_refused : {X : Type 0} (view : X → List ℕ) (zone : ZoneOf) (fault : LineFault) → Makes left make (Ok zone) → fine → IsStoreLine fault
      → GivesOf view left (λ input. make input >>= put_by fault) (Err fault) fine failed
  put_refused view zone (Refused refusal) read well is =
      ((read.0, read.1, given_before (make read.0) (λ z. Err refusal) zone read.2), well)
  put_refused view zone NoMemory read well is = well
  put_refused view zone ReadFailed read well is = absurd is

  -- the zone was put
  pub put_told : {X : Type 0} (view : X → List ℕ) (zone : ZoneOf) (line : X) → Makes left make (Ok zone) → fine → view line ≡ imported_line zone
      → GivesOf view left (λ input. make input >>= λ z. Ok (imported_line z)) (Ok line) fine failed
  put_told view zone line read well e =
      ((read.0, read.1, given_before (make read.0) (λ z. Ok (imported_line z)) zone read.2 ∙ ap (λ (l : List ℕ). let made : Result (List ℕ) Refusal = Ok l in made) (sym e)), well)

-- what a store makes of zones, where a zone was imported or not
pub imported_gives : {C : Type 0} (shows : C → Shown) (left : Option (List ℕ)) (origin : List ℕ) (finds : Bool → Type 0) (refuses : StoreFault → Type 0) (connects : C → Type 0) (existing : Existing)
    (conn : Option C) (made : Result (List ℕ) LineFault) (fine failed : Type 0) → IsImported shows left origin finds refuses connects existing conn made fine failed
    → (put : ZoneOf → Result (List ℕ) Refusal) × PutsZones put × GivesOf {X = List ℕ} (λ line. line) left (import_text origin put) made fine failed
imported_gives shows left origin finds refuses connects existing conn (Ok line) fine failed is = (
  (λ z. Ok (imported_line z)),
  (λ z. refl),
  put_told left (zone_read origin) fine failed (λ (l : List ℕ). l) is.0 line is.1 is.2 is.3.1,
)
imported_gives shows left origin finds refuses connects existing conn (Err fault) fine failed (inl unread) =
    let put = λ (z : ZoneOf). let told : Result (List ℕ) Refusal = Ok (imported_line z) in told in
    (put, (λ z. refl), read_refused left (zone_read origin) fine failed (λ (l : List ℕ). l) (λ (z : ZoneOf). z) put fault unread.0)
imported_gives shows left origin finds refuses connects existing conn (Err fault) fine failed (inr is) =
    let named : IsStoreLine fault = elim is.3 [
      | inl none ↦ subst IsStoreLine (sym none.0) tt
      | inr by ↦ subst IsStoreLine (sym by.1) (line_of_store by.0)
    ] in
    (put_by fault, puts_by fault named, put_refused left (zone_read origin) fine failed (λ (l : List ℕ). l) is.0 fault is.1 is.2 named)

-- what was made of an input is answered to it
pub reported_answered : (left : Option (List ℕ)) (answer : List ℕ → Result (List ℕ) Refusal) (old new : Option (List ℕ)) (fine failed : Type 0) (writes writes_after : ℕ)
    (made : Result (List ℕ) LineFault) (result : Result (Unit {0}) JobFault) → GivesOf {X = List ℕ} (λ line. line) left answer made fine failed
    → IsReported made old new result writes writes_after → Answered left answer old new result fine failed writes writes_after
reported_answered left answer old new fine failed writes writes_after (Ok text) (Ok done) given wrote = answered_sent left answer old new fine failed writes writes_after text given.0 given.1 wrote
reported_answered left answer old new fine failed writes writes_after (Ok text) (Err WriteFailed) given wrote = answered_front left answer old new fine failed writes writes_after text given.0 given.1 wrote
reported_answered left answer old new fine failed writes writes_after (Ok text) (Err (Reported fault)) given wrote = absurd wrote
reported_answered left answer old new fine failed writes writes_after (Err fault) result given wrote =
    answered_told left answer old new fine failed writes writes_after (λ (l : List ℕ). l) fault result given wrote

-- ---- a store that is asked for something, and tells a fault

-- what it made, where it reported this fault
abbrev pub found_by : LineFault → Result (List Record) Refusal
found_by (Refused refusal) = Err refusal
found_by fault = Ok []

pub finds_by : (fault : LineFault) → IsStoreLine fault → FindsRecords (found_by fault)
finds_by (Refused refusal) is = is
finds_by NoMemory is = tt
finds_by ReadFailed is = absurd is

-- a word is refused before the store is asked
pub word_refused : {A B X Z : Type 0} (view : X → B) (seen : Z → A) (first : Result A Refusal) (next : A → Result B Refusal) (fault : LineFault)
    → Gives seen (Err fault) first → Gives view (Err fault) (first >>= next)
word_refused view seen first next (Refused refusal) given = refused_before first next refusal given
word_refused view seen first next NoMemory given = tt
word_refused view seen first next ReadFailed given = absurd given

-- a store refuses what it is asked for
pub found_refused : {A X : Type 0} (view : X → List ℕ) (first : Result A Refusal) (text : A → List Record → List ℕ) (a : A) (fault : LineFault)
    → first ≡ Ok a → IsStoreLine fault → Gives view (Err fault) (first >>= λ b. found_by fault >>= λ records. Ok (text b records))
found_refused {A} view first text a (Refused refusal) e is =
    given_before first (λ (b : A). let refused : Result (List ℕ) Refusal = Err refusal in refused) a e
found_refused view first text a NoMemory e is = tt
found_refused view first text a ReadFailed e is = absurd is

-- what is made is written at once, where nothing is read
pub told_at_once : {X : Type 0} (view : X → List ℕ) (made : Result (List ℕ) Refusal) (fault : LineFault) → Gives view (Err fault) made
    → GivesOf view None (λ input. made) (Err fault) ⊤ ⊥
told_at_once view made (Refused refusal) given = (([], tt, given), tt)
told_at_once view made NoMemory given = tt
told_at_once view made ReadFailed given = absurd given

-- what a store holds, where records of it were had or not
pub exported_gives : {C X : Type 0} (form : ZoneForm) (shows : C → Shown) (view : X → List Record) (word : List ℕ) (finds : Bool → Type 0) (refuses : StoreFault → Type 0) (connects : C → Type 0)
    (conn : Option C) (made : Result (List (List ℕ) × X) LineFault) → IsExported shows view word finds refuses connects conn made
    → (held : Result (List Record) Refusal) × FindsRecords held × Gives (λ found. zone_text_in form found.0 (view found.1)) made (export_text form word held)
exported_gives form shows view word finds refuses connects conn (Ok found) is =
    (Ok (view found.1), tt, given_before (of_names (absolute_name word)) (λ origin. Ok (zone_text_in form origin (view found.1))) found.0 is.0)
exported_gives {C} {X} form shows view word finds refuses connects conn (Err fault) (inl refused) =
    let none : List Record = [] in
    (Ok none, tt, word_refused (λ (found : List (List ℕ) × X). zone_text_in form found.0 (view found.1)) (λ (name : List (List ℕ)). name) (of_names (absolute_name word)) _ fault refused.0)
exported_gives {C} {X} form shows view word finds refuses connects conn (Err fault) (inr is) =
    let named = subst IsStoreLine (sym is.2.1) (line_of_store is.2.0) in (
      found_by fault,
      finds_by fault named,
      found_refused (λ (found : List (List ℕ) × X). zone_text_in form found.0 (view found.1)) (of_names (absolute_name word)) (zone_text_in form) is.0 fault is.1 named,
    )

abbrev pub made_by : LineFault → List ℕ → Result (List ℕ) Refusal
made_by (Refused refusal) line = Err refusal
made_by fault line = Ok line

pub migrates_by : (fault : LineFault) (line : List ℕ) → IsStoreLine fault → Migrates (Ok line) → Migrates (made_by fault line)
migrates_by (Refused refusal) line is some = is
migrates_by NoMemory line is some = some
migrates_by ReadFailed line is some = absurd is

pub migration_refused : {X : Type 0} (view : X → List ℕ) (line : List ℕ) (fault : LineFault) → IsStoreLine fault → Gives view (Err fault) (made_by fault line)
migration_refused view line (Refused refusal) is = refl
migration_refused view line NoMemory is = tt
migration_refused view line ReadFailed is = absurd is

-- ---- what is written

-- the same of a text that takes memory while it is written
pub shown_answered : {X : Type 0} (view : X → List ℕ) (text : Result (List ℕ) Refusal) (old new : Option (List ℕ)) (writes writes_after : ℕ) (found : Result X LineFault) (result : Result (Unit {0}) JobFault)
    → Gives view found text → IsShown (result_map_both view (λ fault. fault) found) old new result writes writes_after → Answered None (λ _. text) old new result ⊤ ⊥ writes writes_after
shown_answered view text old new writes writes_after (Ok x) result given wrote =
    answered_printed None (λ _. text) old new ⊤ ⊥ writes writes_after (view x) result ([], tt, given) tt wrote
shown_answered view text old new writes writes_after (Err fault) result given wrote =
    answered_told None (λ _. text) old new ⊤ ⊥ writes writes_after view fault result (told_at_once view text fault given) wrote

-- what a store made of a migration, and what it reported
pub migration_gives : (migrated : Result ℕ StoreFault) → (made : Result (List ℕ) Refusal) × Migrates made × Gives {X = List ℕ} (λ line. line) (migration_told migrated) made
migration_gives (Ok zones) = (Ok (migrated_line zones), (zones, refl), refl)
migration_gives (Err fault) =
    let named = line_of_store fault in
    let line = migrated_line 0 in
    (made_by (of_store fault) line, migrates_by (of_store fault) line named (0, refl), migration_refused (λ (l : List ℕ). l) line (of_store fault) named)

pub gives_at_once : (text : Result (List ℕ) Refusal) (made : Result (List ℕ) LineFault) → Gives {X = List ℕ} (λ line. line) made text → GivesOf {X = List ℕ} (λ line. line) None (λ _. text) made ⊤ ⊥
gives_at_once text (Ok line) given = (([], tt, given), tt)
gives_at_once text (Err fault) given = told_at_once (λ (l : List ℕ). l) text fault given

pub shown_seen : {A B : Type 0} (text : B → List ℕ) (view : A → B) (old new : Option (List ℕ)) (writes writes_after : ℕ) (found : Result A LineFault) (result : Result (Unit {0}) JobFault)
    → IsShown (result_map_both (λ a. text (view a)) (λ fault. fault) found) old new result writes writes_after
    → IsShown (result_map_both text (λ fault. fault) (result_map_both view (λ fault. fault) found)) old new result writes writes_after
shown_seen text view old new writes writes_after (Ok a) result shown = shown
shown_seen text view old new writes writes_after (Err fault) result shown = shown

pub shown_with : {A O : Type 0} (text : O → A → List ℕ) (o : O) (old new : Option (List ℕ)) (writes writes_after : ℕ) (held : Result A StoreFault) (result : Result (Unit {0}) JobFault)
    → IsShown (result_map_both (λ a. text o a) of_store held) old new result writes writes_after
    → IsShown (result_map_both (λ (found : O × A). text found.0 found.1) (λ fault. fault) (result_map_both (λ a. (o, a)) of_store held)) old new result writes writes_after
shown_with text o old new writes writes_after (Ok a) result shown = shown
shown_with text o old new writes writes_after (Err fault) result shown = shown

-- ---- a command that has done its work

module _ {C : Type 0} (s : StoresOf C) (path word : List ℕ) (conn : Option C) (old new : Option (List ℕ)) (result : Result (Unit {0}) JobFault) (writes writes_after : ℕ) where
  pub import_told : (existing : Existing) (left : Option (List ℕ)) (made : Result (List ℕ) LineFault) (fine failed : Type 0)
      → IsImported s.shows left word (s.finds path) (s.refuses path) (s.connects path) existing conn made fine failed → IsReported made old new result writes writes_after
      → ImportWritten word left old new result fine failed writes writes_after × ZoneStored s path word existing left conn old new result fine failed writes writes_after
  import_told existing left made fine failed is told =
      let x = imported_gives s.shows left word (s.finds path) (s.refuses path) (s.connects path) existing conn made fine failed is in
      ((x.0, x.1, reported_answered left (import_text word x.0) old new fine failed writes writes_after made result x.2 told), (made, is, told))

  pub export_told : {X : Type 0} (form : ZoneForm) (view : X → List Record) (made : Result (List (List ℕ) × X) LineFault)
      → IsExported s.shows view word (s.finds path) (s.refuses path) (s.connects path) conn made
      → IsShown (result_map_both (λ (found : List (List ℕ) × X). zone_text_in form found.0 (view found.1)) (λ fault. fault) made) old new result writes writes_after
      → ExportWritten word form old new result writes writes_after × ZoneExported s path word form conn old new result writes writes_after
  export_told {X} form view made is shown =
      let x = exported_gives form s.shows view word (s.finds path) (s.refuses path) (s.connects path) conn made is in (
        (x.0, x.1, shown_answered (λ (found : List (List ℕ) × X). zone_text_in form found.0 (view found.1)) (export_text form word x.0) old new writes writes_after made result x.2 shown),
        (
          result_map_both (λ (found : List (List ℕ) × X). (found.0, view found.1)) (λ fault. fault) made,
          seen_exported s.shows (s.finds path) (s.refuses path) (s.connects path) view word conn made is,
          shown_seen (λ (found : List (List ℕ) × List Record). zone_text_in form found.0 found.1) (λ (found : List (List ℕ) × X). (found.0, view found.1)) old new writes writes_after made result shown,
        ),
      )
