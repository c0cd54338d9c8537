-- What the calls of the reader of files answer.
use Rattle.std.specs.Prelude.{◌≡◌, ℕ, ◌-◌, List, length, ◌++◌, Option, option_map, Result, Ok, Err}
use Rattle.std.specs.List.{slice_get}
use Rattle.dns_data.specs.declared.record.Record.{Record}
use Rattle.dns_master.specs.declared.shape.ShapeFault.TheVariants as shapes
use Rattle.dns_master.specs.declared.entry_fault.EntryFault.{EntryFault}
use Rattle.dns_master.specs.declared.entry_fault.EntryFault.TheVariants as of_entry
use Rattle.dns_master.specs.declared.entry_fault.EntryFault.TheVariants.{NoOwner, NoTtl}
use Rattle.dns_master.specs.declared.file.FileFault.{FileFault}
use Rattle.dns_master.specs.declared.file.FileFault.TheVariants.{Shape, Entry}
use Rattle.dns_master.specs.declared.file.FileRead.{FileRead}
use Rattle.dns_master.specs.declared.statement.StatedRecord.{StatedRecord}
use Rattle.dns_master.specs.declared.statement.Statement.{Statement}
use Rattle.dns_master.specs.EntryFaults.{◌>>=◌, RefusesEntry}
use Rattle.dns_master.specs.Entries.{Entry as EntryOf, entries}
use Rattle.dns_master.specs.Reader.{RefusesAt}
use Rattle.dns_master.specs.InForce.{InForce, or_else, fitting_ttl, behind_entry}
use Rattle.dns_master.specs.Files.{Taken, or_refused, records_of}

-- the owner of the last of the records
abbrev pub last_owner : List Record → Option (List (List ℕ))
last_owner records = option_map (λ r. r.owner) (slice_get records (length records - 1))

-- what is in force after the entries that were read
abbrev pub force_of : FileRead → InForce
force_of f = record { origin = f.origin; owner = last_owner f.records.items; default_ttl = f.default_ttl; stated_ttl = f.stated_ttl; minimum = f.minimum }

-- the owner and the TTL of a record that states these, or none
abbrev pub lead_or : FileRead → Option (List (List ℕ)) → Option ℕ → Result (List (List ℕ) × ℕ) EntryFault
lead_or f owner ttl =
    or_refused NoOwner (or_else owner (last_owner f.records.items)) >>= λ name.
    or_refused NoTtl (or_else ttl (or_else f.default_ttl (or_else f.stated_ttl (fitting_ttl f.minimum)))) >>= λ seconds.
    Ok (name, seconds)

-- the record that is stated so, with the owner and the TTL in force where it leaves them out
abbrev pub completed : FileRead → StatedRecord → Result Record EntryFault
completed f stated = lead_or f stated.owner stated.ttl >>= λ lead. Ok (record { owner = lead.0; ttl = lead.1; rdata = stated.rdata })

-- an entry was taken so
pub record Takes (old new : FileRead) (t : Taken) : Type 0 where
  pub in_force : force_of new ≡ t.0
  pub records : new.records.items ≡ old.records.items ++ t.1

-- what a statement makes was taken, or refused
abbrev pub TakesStatement : FileRead → FileRead → Statement → Result (Unit {0}) EntryFault → Type 0
TakesStatement old new s (Ok done) = (records : List Record) × (records_of s (force_of old) ≡ Ok records) × Takes old new (behind_entry s (force_of old), records)
TakesStatement old new s (Err e) = RefusesEntry e (records_of s (force_of old))

-- what an entry makes was taken, or refused
abbrev pub TakesEntry : FileRead → FileRead → Result Taken EntryFault → Result (Unit {0}) EntryFault → Type 0
TakesEntry old new read (Ok done) = (t : Taken) × (read ≡ Ok t) × Takes old new t
TakesEntry old new read (Err e) = RefusesEntry e read

-- what a call refused with is the refusal of the definition; out of memory says nothing of the definition
abbrev pub RefusesFile : {Y : Type 0} → FileFault → Result Y FileFault → Type 0
RefusesFile (Shape shapes.NoMemory) read = Unit {0}
RefusesFile (Entry left of_entry.NoMemory) read = Unit {0}
RefusesFile fault read = read ≡ Err fault

-- what a call answered, seen by view, is what the definition reads, unless memory ran out
abbrev pub GivesFile : {X Y : Type 0} → (X → Y) → Result X FileFault → Result Y FileFault → Type 0
GivesFile view (Ok x) read = read ≡ Ok (view x)
GivesFile view (Err e) read = RefusesFile e read

-- the fault of an entry that is refused, unless parentheses or quotes are wrong in the text after it
abbrev pub IsFaultBefore : ℕ → EntryFault → List ℕ → FileFault → Type 0
IsFaultBefore left fault rest (Shape shape) = RefusesAt shape (entries rest)
IsFaultBefore left fault rest (Entry here refused) = (here ≡ left) × (refused ≡ fault) × ((es : List EntryOf) × (entries rest ≡ Ok es))
