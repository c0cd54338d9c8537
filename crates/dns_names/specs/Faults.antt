-- The refusals of names, by their published numbers.
use Rattle.std.specs.Prelude.{◌≡◌, ℕ, Result, Ok, Err}
use Rattle.dns_names.specs.declared.name_fault.NameFault.{NameFault}
use Rattle.dns_names.specs.declared.name_fault.NameFault.TheVariants.{EmptyLabel, LabelTooLong, NameTooLong, BadEscape, NotAbsolute, Empty, NoMemory}

abbrev pub fault_number : NameFault → ℕ
fault_number EmptyLabel = 1
fault_number LabelTooLong = 2
fault_number NameTooLong = 3
fault_number BadEscape = 4
fault_number NotAbsolute = 5
fault_number Empty = 6
fault_number NoMemory = 99

-- what a call refused with is the refusal of the definition; out of memory says nothing of the definition
abbrev pub Refuses : {Y : Type 0} → NameFault → Result Y NameFault → Type 0
Refuses NoMemory read = Unit {0}
Refuses fault read = read ≡ Err fault

-- what a call answered, seen by view, is what the definition reads, unless memory ran out
abbrev pub Reads : {X Y : Type 0} → (X → Y) → Result X NameFault → Result Y NameFault → Type 0
Reads view (Ok x) read = read ≡ Ok (view x)
Reads view (Err e) read = Refuses e read
