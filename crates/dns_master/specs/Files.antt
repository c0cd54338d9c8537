-- The records of a master file (RFC 1035 section 5.1): one for each record entry, with the refusal that comes first.
use Rattle.std.specs.Prelude.{ℕ, ◌-◌, List, [], ◌∷◌, ◌++◌, length, map, Bool, nat_lt, if◌then◌else◌, Option, Some, None, Result, Ok, Err}
use Rattle.dns_data.specs.declared.record.Record.{Record}
use Rattle.dns_data.specs.Items.{ItemText}
use Rattle.dns_master.specs.declared.master_fault.MasterFault.{MasterFault}
use Rattle.dns_master.specs.declared.master_fault.MasterFault.TheVariants.{TooLarge}
use Rattle.dns_master.specs.declared.shape.ShapeFault.{ShapeFault}
use Rattle.dns_master.specs.declared.entry_fault.EntryFault.{EntryFault}
use Rattle.dns_master.specs.declared.entry_fault.EntryFault.TheVariants.{NoOwner, NoTtl}
use Rattle.dns_master.specs.declared.statement.Statement.{Statement}
use Rattle.dns_master.specs.declared.statement.Statement.TheVariants as statements
use Rattle.dns_master.specs.declared.file.FileFault.{FileFault}
use Rattle.dns_master.specs.declared.file.FileFault.TheVariants.{Shape, Entry as AtEntry}
use Rattle.dns_master.specs.Lines.{line_at}
use Rattle.dns_master.specs.Faults.{on_line}
use Rattle.dns_master.specs.Entries.{Found, Entry, entries}
use Rattle.dns_master.specs.Reader.{text_of}
use Rattle.dns_master.specs.EntryFaults.{◌>>=◌, entry_fault_on_line}
use Rattle.dns_master.specs.Statements.{statement_of}
use Rattle.dns_master.specs.InForce.{InForce, or_else, ttl_in_force, behind_entry, handed_in}

-- ---- one entry

abbrev pub or_refused : {A : Type 0} → EntryFault → Option A → Result A EntryFault
or_refused fault None = Err fault
or_refused fault (Some x) = Ok x

-- the record of an entry, where it is one
abbrev pub records_of : Statement → InForce → Result (List Record) EntryFault
records_of (statements.Record stated) before =
    or_refused NoOwner (or_else stated.owner before.owner) >>= λ owner.
    or_refused NoTtl (ttl_in_force stated.ttl before (behind_entry (statements.Record stated) before)) >>= λ ttl.
    Ok ((record { owner = owner; ttl = ttl; rdata = stated.rdata }) ∷ [])
records_of statement before = Ok []

-- what is in force after an entry, and its record
abbrev pub Taken : Type 0
Taken = InForce × List Record

-- an entry where this is in force
abbrev pub taken : InForce → Bool → List ItemText → Result Taken EntryFault
taken before white items =
    statement_of before.origin before.owner white items >>= λ s. records_of s before >>= λ records. Ok (behind_entry s before, records)

-- ---- all entries

-- how many octets are left from an entry's first item on
abbrev pub first_left : List Found → ℕ
first_left [] = 0
first_left (f ∷ fs) = f.left

-- records before the others
abbrev pub with_records : List Record → Result (List Record) FileFault → Result (List Record) FileFault
with_records records (Ok others) = Ok (records ++ others)
with_records records (Err fault) = Err fault

-- an entry, and then the records of the entries after it
abbrev pub then_entries : ℕ → Result Taken EntryFault → (InForce → Result (List Record) FileFault) → Result (List Record) FileFault
then_entries left (Err fault) more = Err (AtEntry left fault)
then_entries left (Ok t) more = with_records t.1 (more t.0)

-- the records of entries, or the first entry at fault
abbrev pub read_from : List Entry → InForce → Result (List Record) FileFault
read_from [] before = Ok []
read_from (e ∷ es) before = then_entries (first_left e.items) (taken before e.white (map text_of e.items)) (read_from es)

-- a fault of parentheses and quotes anywhere, else the records of the entries, or the first of them at fault
abbrev pub file_from : InForce → Result (List Entry) ShapeFault → Result (List Record) FileFault
file_from before (Err fault) = Err (Shape fault)
file_from before (Ok es) = read_from es before

-- the records of a text, or its first refusal, of which it is said how many octets are left
abbrev pub placed_file : List ℕ → List (List ℕ) → Result (List Record) FileFault
placed_file text origin = file_from (handed_in origin) (entries text)

-- the refusal with its line: that of an entry is the line of its first item
abbrev pub file_fault_on_line : List ℕ → FileFault → MasterFault
file_fault_on_line text (Shape fault) = on_line text fault
file_fault_on_line text (AtEntry left fault) = entry_fault_on_line (line_at text (length text - left)) fault

abbrev pub file_on_lines : List ℕ → Result (List Record) FileFault → Result (List Record) MasterFault
file_on_lines text (Ok records) = Ok records
file_on_lines text (Err fault) = Err (file_fault_on_line text fault)

-- The records of a text, or its first refusal: that it is too large; a fault of parentheses and quotes anywhere; the first
-- entry at fault.
abbrev pub file_of : List ℕ → List (List ℕ) → Result (List Record) MasterFault
file_of text origin = if nat_lt 4194304 (length text) then Err TooLarge else file_on_lines text (placed_file text origin)
