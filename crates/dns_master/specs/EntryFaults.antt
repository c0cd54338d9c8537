-- The refusals of an entry, before its line is told.
use Rattle.std.specs.Prelude.{◌≡◌, ℕ, Result, Ok, Err}
use Rattle.dns_names.specs.declared.name_fault.NameFault.{NameFault}
use Rattle.dns_data.specs.declared.data_fault.DataFault.{DataFault}
use Rattle.dns_data.specs.declared.data_fault.DataFault.TheVariants as data_faults
use Rattle.dns_data.specs.Faults as of_fault
use Rattle.dns_master.specs.declared.master_fault.MasterFault.{MasterFault}
use Rattle.dns_master.specs.declared.master_fault.MasterFault.TheVariants as files
use Rattle.dns_master.specs.declared.entry_fault.EntryFault.{EntryFault}
use Rattle.dns_master.specs.declared.entry_fault.EntryFault.TheVariants.{NoOwner, NoTtl, ClassNotIn, DirectiveNotKept, BadTtl, Data, EntryShort, NoMemory}

-- the refusal with the line of the entry's first item
abbrev pub entry_fault_on_line : ℕ → EntryFault → MasterFault
entry_fault_on_line line NoOwner = files.NoOwner line
entry_fault_on_line line NoTtl = files.NoTtl line
entry_fault_on_line line ClassNotIn = files.ClassNotIn line
entry_fault_on_line line DirectiveNotKept = files.DirectiveNotKept line
entry_fault_on_line line BadTtl = files.BadTtl line
entry_fault_on_line line (Data fault) = files.Data line fault
entry_fault_on_line line EntryShort = files.EntryShort line
entry_fault_on_line line NoMemory = files.NoMemory

-- the refusal of an entry where its data, or a name in it, are refused
abbrev pub of_data : DataFault → EntryFault
of_data data_faults.NoMemory = NoMemory
of_data fault = Data fault

abbrev pub of_name : NameFault → EntryFault
of_name fault = of_data (of_fault.of_name fault)

-- what a definition of data reads, with its refusal as one of an entry
abbrev pub of_datas : {A : Type 0} → Result A DataFault → Result A EntryFault
of_datas (Ok x) = Ok x
of_datas (Err fault) = Err (of_data fault)

-- the next step, unless there is a refusal
infixl 10 ◌>>=◌
abbrev pub ◌>>=◌ : {A B : Type 0} → Result A EntryFault → (A → Result B EntryFault) → Result B EntryFault
(Ok x) >>= f = f x
(Err e) >>= f = Err e

-- what a call refused with is the refusal of the definition; out of memory says nothing of the definition
abbrev pub RefusesEntry : {Y : Type 0} → EntryFault → Result Y EntryFault → Type 0
RefusesEntry NoMemory read = Unit {0}
RefusesEntry fault read = read ≡ Err fault

-- what a call answered, seen by view, is what the definition reads, unless memory ran out
abbrev pub Tells : {X Y : Type 0} → (X → Y) → Result X EntryFault → Result Y EntryFault → Type 0
Tells view (Ok x) read = read ≡ Ok (view x)
Tells view (Err e) read = RefusesEntry e read
