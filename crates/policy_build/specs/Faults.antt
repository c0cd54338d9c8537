-- The refusals of files of groups, by their published numbers.
use Rattle.std.specs.Prelude.{◌≡◌, ℕ, Result, Ok, Err}
use Rattle.dns_names.specs.declared.name_fault.NameFault.{NameFault}
use Rattle.dns_names.specs.declared.name_fault.NameFault.TheVariants as names
use Rattle.policy_build.specs.declared.build_fault.BuildFault.{BuildFault}
use Rattle.policy_build.specs.declared.build_fault.BuildFault.TheVariants.{NotToml, UnknownKey, MissingKey, BadValue, Empty, Name, Repeated, Reserved, IdTooLong, UnknownGroup, UnknownTemplate, TooManyMembers, TooManyRules, NoMemory}
use Rattle.policy_build.specs.declared.place.Place.{Place}

abbrev pub fault_number : BuildFault → ℕ
fault_number NotToml = 51
fault_number (UnknownKey place) = 52
fault_number (MissingKey place) = 53
fault_number (BadValue place) = 54
fault_number (Empty place) = 54
fault_number (Name place fault) = 58
fault_number (Repeated place) = 55
fault_number (Reserved place) = 56
fault_number (IdTooLong place) = 54
fault_number (UnknownGroup place) = 54
fault_number (UnknownTemplate place) = 54
fault_number (TooManyMembers place count) = 57
fault_number (TooManyRules place count) = 57
fault_number NoMemory = 99

-- the refusal where a name is refused
abbrev pub name_fault : Place → NameFault → BuildFault
name_fault place names.NoMemory = NoMemory
name_fault place fault = Name place fault

-- what a call refused with is the refusal of the definition; out of memory says nothing of the definition
abbrev pub Refuses : {Y : Type 0} → BuildFault → Result Y BuildFault → Type 0
Refuses NoMemory read = Unit {0}
Refuses fault read = read ≡ Err fault

-- what a call answered, seen by view, is what the definition reads, unless memory ran out
abbrev pub Reads : {X Y : Type 0} → (X → Y) → Result X BuildFault → Result Y BuildFault → Type 0
Reads view (Ok x) read = read ≡ Ok (view x)
Reads view (Err e) read = Refuses e read

infixl 10 ◌>>=◌
abbrev pub ◌>>=◌ : {A B : Type 0} → Result A BuildFault → (A → Result B BuildFault) → Result B BuildFault
(Ok x) >>= f = f x
(Err e) >>= f = Err e
