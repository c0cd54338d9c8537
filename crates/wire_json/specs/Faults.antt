-- The refusals of bodies, by their published numbers.
use Rattle.std.specs.Prelude.{◌≡◌, ℕ, Result, Ok, Err, Option, Some, None}
use Rattle.dns_names.specs.declared.name_fault.NameFault.{NameFault}
use Rattle.dns_names.specs.declared.name_fault.NameFault.TheVariants as names
use Rattle.dns_data.specs.declared.data_fault.DataFault.{DataFault}
use Rattle.dns_data.specs.declared.data_fault.DataFault.TheVariants as datas
use Rattle.dns_master.specs.declared.master_fault.MasterFault.{MasterFault}
use Rattle.dns_master.specs.declared.master_fault.MasterFault.TheVariants as masters
use Rattle.grant_policy.specs.declared.identifier.IdentifierFault.{IdentifierFault}
use Rattle.grant_policy.specs.declared.identifier.IdentifierFault.TheVariants as identifiers
use Rattle.zone_core.specs.declared.faults.UpdateFault.{UpdateFault}
use Rattle.zone_core.specs.declared.faults.DelegationFault.{DelegationFault}
use Rattle.zone_core.specs.declared.faults.DelegationFault.TheVariants as delegations
use Rattle.zone_core.specs.Faults.{update_fault_number, delegation_fault_number}
use Rattle.wire_json.specs.declared.body_fault.BodyFault.{BodyFault}
use Rattle.wire_json.specs.declared.body_fault.BodyFault.TheVariants.{NotJson, UnknownField, MissingField, BadField, Update, Delegation, NoMemory}

-- the published number of a refusal
abbrev pub fault_number : BodyFault → ℕ
fault_number NotJson = 85
fault_number UnknownField = 86
fault_number MissingField = 87
fault_number BadField = 88
fault_number (Update fault) = update_fault_number fault
fault_number (Delegation fault) = delegation_fault_number fault
fault_number NoMemory = 99

-- the next step, unless there is a fault
infixl 10 ◌>>=◌
abbrev pub ◌>>=◌ : {A B : Type 0} → Result A BodyFault → (A → Result B BodyFault) → Result B BodyFault
(Ok x) >>= f = f x
(Err e) >>= f = Err e

-- what a call refused with is the refusal of the definition; out of memory says nothing of the definition
abbrev pub Refuses : {Y : Type 0} → BodyFault → Result Y BodyFault → Type 0
Refuses NoMemory read = Unit {0}
Refuses fault read = read ≡ Err fault

-- what a call answered, seen by view, is what the definition gives, unless memory ran out
abbrev pub Gives : {X Y : Type 0} → (X → Y) → Result X BodyFault → Result Y BodyFault → Type 0
Gives view (Ok x) read = read ≡ Ok (view x)
Gives view (Err e) read = Refuses e read

-- ---- the faults of what values are made of

-- a value that is there, and of its form
abbrev pub or_bad : {A : Type 0} → Option A → Result A BodyFault
or_bad None = Err BadField
or_bad (Some x) = Ok x

-- a text that is no name
abbrev pub of_name : NameFault → BodyFault
of_name names.NoMemory = NoMemory
of_name fault = BadField

-- a text that is no identifier
abbrev pub of_identifier : IdentifierFault → BodyFault
of_identifier identifiers.NoMemory = NoMemory
of_identifier identifiers.Malformed = BadField

-- a text with a parenthesis or a quote at fault
abbrev pub of_shape : MasterFault → BodyFault
of_shape masters.NoMemory = NoMemory
of_shape fault = BadField

-- a text that is no type, no TTL or no data
abbrev pub of_data : DataFault → BodyFault
of_data datas.NoMemory = NoMemory
of_data fault = BadField

-- a delegation that makes no update
abbrev pub of_delegation : DelegationFault → BodyFault
of_delegation delegations.NoMemory = NoMemory
of_delegation fault = Delegation fault

-- what a definition of names gives
abbrev pub of_names : {A : Type 0} → Result A NameFault → Result A BodyFault
of_names (Ok x) = Ok x
of_names (Err fault) = Err (of_name fault)

-- what a definition of parentheses and quotes gives
abbrev pub of_shapes : {A : Type 0} → Result A MasterFault → Result A BodyFault
of_shapes (Ok x) = Ok x
of_shapes (Err fault) = Err (of_shape fault)

-- what a definition of types and of data gives
abbrev pub of_datas : {A : Type 0} → Result A DataFault → Result A BodyFault
of_datas (Ok x) = Ok x
of_datas (Err fault) = Err (of_data fault)

-- what a definition of updates gives
abbrev pub of_updates : {A : Type 0} → Result A UpdateFault → Result A BodyFault
of_updates (Ok x) = Ok x
of_updates (Err fault) = Err (Update fault)

-- what a definition of delegations gives
abbrev pub of_delegations : {A : Type 0} → Result A DelegationFault → Result A BodyFault
of_delegations (Ok x) = Ok x
of_delegations (Err fault) = Err (of_delegation fault)
