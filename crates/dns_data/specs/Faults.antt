-- The refusals of record data, by their published numbers.
use Rattle.std.specs.Prelude.{◌≡◌, ℕ, Result, Ok, Err}
use Rattle.dns_names.specs.declared.name_fault.NameFault.{NameFault}
use Rattle.dns_names.specs.declared.name_fault.NameFault.TheVariants as names
use Rattle.dns_data.specs.declared.data_fault.DataFault.{DataFault}
use Rattle.dns_data.specs.declared.data_fault.DataFault.TheVariants.{BadAddress, BadNumber, NumberRange, StringTooLong, FieldMissing, FieldExtra, TypeNotKept, DataTooLong, Name, QuotedItem, BadDigest, NoMemory}

abbrev pub fault_number : DataFault → ℕ
fault_number BadAddress = 11
fault_number BadNumber = 12
fault_number NumberRange = 13
fault_number StringTooLong = 14
fault_number FieldMissing = 15
fault_number FieldExtra = 16
fault_number TypeNotKept = 17
fault_number DataTooLong = 18
fault_number (Name fault) = 19
fault_number QuotedItem = 20
fault_number BadDigest = 33
fault_number NoMemory = 99

-- the refusal of data where a name in it is refused
abbrev pub of_name : NameFault → DataFault
of_name names.NoMemory = NoMemory
of_name fault = Name fault

-- what a call refused with is the refusal of the definition; out of memory says nothing of the definition
abbrev pub Refuses : {Y : Type 0} → DataFault → Result Y DataFault → Type 0
Refuses NoMemory read = Unit {0}
Refuses fault read = read ≡ Err fault

-- what a call answered, seen by view, is what the definition reads, unless memory ran out
abbrev pub Reads : {X Y : Type 0} → (X → Y) → Result X DataFault → Result Y DataFault → Type 0
Reads view (Ok x) read = read ≡ Ok (view x)
Reads view (Err e) read = Refuses e read

infixl 10 ◌>>=◌
abbrev pub ◌>>=◌ : {A B : Type 0} → Result A DataFault → (A → Result B DataFault) → Result B DataFault
(Ok x) >>= f = f x
(Err e) >>= f = Err e

-- what a definition of names reads, with its refusal as one of data
abbrev pub of_names : {A : Type 0} → Result A NameFault → Result A DataFault
of_names (Ok x) = Ok x
of_names (Err fault) = Err (of_name fault)
