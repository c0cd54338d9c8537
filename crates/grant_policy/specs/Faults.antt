-- The refusals of policies, by their published numbers.
use Rattle.std.specs.Prelude.{◌≡◌, ℕ, List, Option, Some, None, Result, Ok, Err, codes}
use Rattle.dns_names.specs.declared.name_fault.NameFault.{NameFault}
use Rattle.dns_names.specs.declared.name_fault.NameFault.TheVariants as names
use Rattle.grant_policy.specs.declared.policy_fault.PolicyFault.{PolicyFault}
use Rattle.grant_policy.specs.declared.policy_fault.PolicyPlace.{PolicyPlace}
use Rattle.grant_policy.specs.declared.policy_fault.PolicyPlace.TheVariants as places
use Rattle.grant_policy.specs.declared.policy_fault.RuleKey.TheVariants as keys
use Rattle.grant_policy.specs.declared.policy_fault.PolicyFault.TheVariants.{NotToml, UnknownKey, MissingKey, BadValue, IdRepeated, IdReserved, TooManyRules, Name, NoMemory}

abbrev pub fault_number : PolicyFault → ℕ
fault_number NotToml = 51
fault_number (UnknownKey place) = 52
fault_number (MissingKey place) = 53
fault_number (BadValue place) = 54
fault_number (IdRepeated number) = 55
fault_number (IdReserved number) = 56
fault_number TooManyRules = 57
fault_number (Name number fault) = 58
fault_number NoMemory = 99

-- where in the document it is, unless the whole of it is meant
abbrev pub fault_place : PolicyFault → Option PolicyPlace
fault_place NotToml = None
fault_place (UnknownKey place) = Some place
fault_place (MissingKey place) = Some place
fault_place (BadValue place) = Some place
fault_place (IdRepeated number) = Some (places.Rule number)
fault_place (IdReserved number) = Some (places.Rule number)
fault_place TooManyRules = None
fault_place (Name number fault) = Some (places.Key number keys.At)
fault_place NoMemory = None

-- the refusal of a rule where its name is refused
abbrev pub of_name : ℕ → NameFault → PolicyFault
of_name number names.NoMemory = NoMemory
of_name number fault = Name number fault

-- what a call refused with is the refusal of the definition; out of memory says nothing of the definition
abbrev pub Refuses : {Y : Type 0} → PolicyFault → Result Y PolicyFault → Type 0
Refuses NoMemory read = Unit {0}
Refuses fault read = read ≡ Err fault

-- what a call answered, seen by view, is what the definition reads, unless memory ran out
abbrev pub Reads : {X Y : Type 0} → (X → Y) → Result X PolicyFault → Result Y PolicyFault → Type 0
Reads view (Ok x) read = read ≡ Ok (view x)
Reads view (Err e) read = Refuses e read

infixl 10 ◌>>=◌
abbrev pub ◌>>=◌ : {A B : Type 0} → Result A PolicyFault → (A → Result B PolicyFault) → Result B PolicyFault
(Ok x) >>= f = f x
(Err e) >>= f = Err e
