-- The refusals of zones and updates, by their published numbers.
use Rattle.std.specs.Prelude.{◌≡◌, ℕ, Result, Ok, Err}
use Rattle.zone_core.specs.declared.faults.ZoneFault.{ZoneFault}
use Rattle.zone_core.specs.declared.faults.ZoneFault.TheVariants as zones
use Rattle.zone_core.specs.declared.faults.UpdateFault.{UpdateFault}
use Rattle.zone_core.specs.declared.faults.UpdateFault.TheVariants as updates
use Rattle.zone_core.specs.declared.faults.DelegationFault.{DelegationFault}
use Rattle.zone_core.specs.declared.faults.DelegationFault.TheVariants as delegations

-- the published number of a zone's refusal
abbrev pub zone_fault_number : ZoneFault → ℕ
zone_fault_number zones.NoSoa = 41
zone_fault_number zones.TwoSoa = 42
zone_fault_number zones.SoaNotAtOrigin = 43
zone_fault_number zones.NoOriginNs = 44
zone_fault_number zones.CnameAndOther = 45
zone_fault_number zones.TwoCnames = 46
zone_fault_number zones.OutOfZone = 47
zone_fault_number zones.RootOrigin = 50
zone_fault_number zones.NoMemory = 99

-- the published number of an update's refusal
abbrev pub update_fault_number : UpdateFault → ℕ
update_fault_number updates.TooManyItems = 89
update_fault_number updates.TwoSoa = 92

-- the published number of a delegation's refusal
abbrev pub delegation_fault_number : DelegationFault → ℕ
delegation_fault_number delegations.NoServer = 40
delegation_fault_number delegations.GlueMissing = 48
delegation_fault_number delegations.NotBelowOrigin = 49
delegation_fault_number delegations.TooManyItems = 89
delegation_fault_number delegations.NoMemory = 99

-- what a call refused with is the refusal of the definition; out of memory says nothing of the definition
abbrev pub Refuses : {Y : Type 0} → ZoneFault → Result Y ZoneFault → Type 0
Refuses zones.NoMemory built = Unit {0}
Refuses fault built = built ≡ Err fault

-- what a call answered, seen by view, is what the definition gives, unless memory ran out
abbrev pub Gives : {X Y : Type 0} → (X → Y) → Result X ZoneFault → Result Y ZoneFault → Type 0
Gives view (Ok x) built = built ≡ Ok (view x)
Gives view (Err e) built = Refuses e built

-- the same of a delegation
abbrev pub RefusesDelegation : {Y : Type 0} → DelegationFault → Result Y DelegationFault → Type 0
RefusesDelegation delegations.NoMemory made = Unit {0}
RefusesDelegation fault made = made ≡ Err fault

abbrev pub GivesDelegation : {X Y : Type 0} → (X → Y) → Result X DelegationFault → Result Y DelegationFault → Type 0
GivesDelegation view (Ok x) made = made ≡ Ok (view x)
GivesDelegation view (Err e) made = RefusesDelegation e made
