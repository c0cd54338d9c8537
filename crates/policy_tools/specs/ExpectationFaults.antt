-- What a reader of expectations answers, beside the definition of what is read; out of memory says nothing of the definition.
use Rattle.std.specs.Prelude.{◌≡◌, ℕ, Option, Some, None, Result, Ok, Err}
use Rattle.dns_names.specs.declared.name_fault.NameFault.{NameFault}
use Rattle.dns_names.specs.declared.name_fault.NameFault.TheVariants as names
use Rattle.policy_tools.specs.declared.expectation_fault.ExpectationFault.{ExpectationFault}
use Rattle.policy_tools.specs.declared.expectation_fault.ExpectationFault.TheVariants.{Name, NoMemory}
use Rattle.policy_tools.specs.declared.expectation_fault.ExpectationsFault.{ExpectationsFault}

-- the refusal of a line where a name in it is refused
abbrev pub of_name : NameFault → ExpectationFault
of_name names.NoMemory = NoMemory
of_name fault = Name fault

abbrev pub of_names : {A : Type 0} → Result A NameFault → Result A ExpectationFault
of_names (Ok x) = Ok x
of_names (Err fault) = Err (of_name fault)

-- what is read, or a refusal where nothing is
abbrev pub or_fault : {A : Type 0} → Option A → ExpectationFault → Result A ExpectationFault
or_fault (Some x) fault = Ok x
or_fault None fault = Err fault

-- the next step, unless there is a fault
infixl 10 ◌>>=◌
abbrev pub ◌>>=◌ : {A B : Type 0} → Result A ExpectationFault → (A → Result B ExpectationFault) → Result B ExpectationFault
(Ok x) >>= f = f x
(Err e) >>= f = Err e

-- what a call refused with is the refusal of the definition
abbrev pub Refuses : {Y : Type 0} → ExpectationFault → Result Y ExpectationFault → Type 0
Refuses NoMemory read = Unit {0}
Refuses fault read = read ≡ Err fault

-- what a call answered, seen by view, is what the definition reads, unless memory ran out
abbrev pub Reads : {X Y : Type 0} → (X → Y) → Result X ExpectationFault → Result Y ExpectationFault → Type 0
Reads view (Ok x) read = read ≡ Ok (view x)
Reads view (Err e) read = Refuses e read

-- ---- the same of a text

infixl 10 ◌>>>=◌
abbrev pub ◌>>>=◌ : {A B : Type 0} → Result A ExpectationsFault → (A → Result B ExpectationsFault) → Result B ExpectationsFault
(Ok x) >>>= f = f x
(Err e) >>>= f = Err e

abbrev pub RefusesText : {Y : Type 0} → ExpectationFault → ℕ → Result Y ExpectationsFault → Type 0
RefusesText NoMemory line read = Unit {0}
RefusesText fault line read = read ≡ Err (record { line = line; fault = fault })

abbrev pub ReadsText : {X Y : Type 0} → (X → Y) → Result X ExpectationsFault → Result Y ExpectationsFault → Type 0
ReadsText view (Ok x) read = read ≡ Ok (view x)
ReadsText view (Err e) read = RefusesText e.fault e.line read
