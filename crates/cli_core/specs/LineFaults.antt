-- What steps of a job answer, beside the definition of what they make; out of memory and devices say nothing of the definition.
use Rattle.std.specs.Prelude.{◌≡◌, ℕ, ◌<◌, List, length, nat_lt, if◌then◌else◌, Option, Some, None, Result, Ok, Err}
use Rattle.dns_names.specs.declared.name_fault.NameFault.{NameFault}
use Rattle.dns_names.specs.declared.name_fault.NameFault.TheVariants as names
use Rattle.dns_master.specs.declared.master_fault.MasterFault.{MasterFault}
use Rattle.dns_master.specs.declared.master_fault.MasterFault.TheVariants as masters
use Rattle.zone_core.specs.declared.faults.ZoneFault.{ZoneFault}
use Rattle.zone_core.specs.declared.faults.ZoneFault.TheVariants as zones
use Rattle.update_lines.specs.declared.items_fault.ItemsFault.{ItemsFault}
use Rattle.update_lines.specs.declared.items_fault.ItemsFault.TheVariants as items
use Rattle.grant_policy.specs.declared.policy_fault.PolicyFault.{PolicyFault}
use Rattle.grant_policy.specs.declared.policy_fault.PolicyFault.TheVariants as policies
use Rattle.policy_build.specs.declared.build_fault.BuildFault.{BuildFault}
use Rattle.policy_build.specs.declared.build_fault.BuildFault.TheVariants as builds
use Rattle.store_faults.specs.declared.store_fault.StoreFault.{StoreFault}
use Rattle.store_faults.specs.declared.store_fault.StoreFault.TheVariants as stores
use Rattle.cli_core.specs.declared.refusal.Refusal.{Refusal}
use Rattle.cli_core.specs.declared.refusal.Refusal.TheVariants.{Name, TooLarge, Master, Zone, Policy, Groups, Items, Store}
use Rattle.cli_core.specs.declared.line_fault.LineFault.{LineFault}
use Rattle.cli_core.specs.declared.line_fault.LineFault.TheVariants.{Refused, ReadFailed, NoMemory}
use Rattle.cli_core.specs.Device.{IsAll}

-- ---- what is made, or the refusal

infixl 10 ◌>>=◌
abbrev pub ◌>>=◌ : {A B : Type 0} → Result A Refusal → (A → Result B Refusal) → Result B Refusal
(Ok x) >>= f = f x
(Err e) >>= f = Err e

abbrev pub or_refused : {A : Type 0} → Option A → Refusal → Result A Refusal
or_refused (Some x) refusal = Ok x
or_refused None refusal = Err refusal

-- an input of at most 4,194,304 octets
abbrev pub limited : List ℕ → Result (List ℕ) Refusal
limited input = if nat_lt 4194304 (length input) then Err TooLarge else Ok input

-- what a reader of names, master files, zones, items, policies or files of groups makes
abbrev pub of_names : {A : Type 0} → Result A NameFault → Result A Refusal
of_names (Ok x) = Ok x
of_names (Err fault) = Err (Name fault)

abbrev pub master_refusal : MasterFault → Refusal
master_refusal masters.TooLarge = TooLarge
master_refusal fault = Master fault

abbrev pub of_masters : {A : Type 0} → Result A MasterFault → Result A Refusal
of_masters (Ok x) = Ok x
of_masters (Err fault) = Err (master_refusal fault)

abbrev pub of_zones : {A : Type 0} → Result A ZoneFault → Result A Refusal
of_zones (Ok x) = Ok x
of_zones (Err fault) = Err (Zone fault)

abbrev pub of_items : {A : Type 0} → Result A ItemsFault → Result A Refusal
of_items (Ok x) = Ok x
of_items (Err fault) = Err (Items fault)

abbrev pub of_policies : {A : Type 0} → Result A PolicyFault → Result A Refusal
of_policies (Ok x) = Ok x
of_policies (Err fault) = Err (Policy fault)

abbrev pub of_builds : {A : Type 0} → Result A BuildFault → Result A Refusal
of_builds (Ok x) = Ok x
of_builds (Err fault) = Err (Groups fault)

-- ---- the fault of a step where its callee has this one

abbrev pub of_name : NameFault → LineFault
of_name names.NoMemory = NoMemory
of_name fault = Refused (Name fault)

abbrev pub of_master : MasterFault → LineFault
of_master masters.NoMemory = NoMemory
of_master fault = Refused (master_refusal fault)

abbrev pub of_zone : ZoneFault → LineFault
of_zone zones.NoMemory = NoMemory
of_zone fault = Refused (Zone fault)

abbrev pub of_item : ItemsFault → LineFault
of_item items.NoMemory = NoMemory
of_item fault = Refused (Items fault)

abbrev pub of_policy : PolicyFault → LineFault
of_policy policies.NoMemory = NoMemory
of_policy fault = Refused (Policy fault)

abbrev pub of_groups : BuildFault → LineFault
of_groups builds.NoMemory = NoMemory
of_groups fault = Refused (Groups fault)

abbrev pub of_store : StoreFault → LineFault
of_store stores.NoMemory = NoMemory
of_store (stores.Zone fault) = of_zone fault
of_store fault = Refused (Store fault)

-- ---- what a step answered

-- seen by view, it is what the definition makes, unless memory ran out
abbrev pub Gives : {X Y : Type 0} → (X → Y) → Result X LineFault → Result Y Refusal → Type 0
Gives view (Ok x) made = made ≡ Ok (view x)
Gives view (Err (Refused refusal)) made = made ≡ Err refusal
Gives view (Err NoMemory) made = Unit {0}
Gives view (Err ReadFailed) made = ⊥

-- the definition makes this of the octets that were left to read
abbrev pub Makes : {Y : Type 0} → Option (List ℕ) → (List ℕ → Result Y Refusal) → Result Y Refusal → Type 0
Makes left make made = (input : List ℕ) × IsAll left input × (make input ≡ made)

-- nothing before the input is refused: of one that is too large, that is told
abbrev pub ReachesInput : {Y : Type 0} → (List ℕ → Result Y Refusal) → Type 0
ReachesInput make = (input : List ℕ) → 4194304 < length input → make input ≡ Err TooLarge

-- What was known to be left to read, what is made of it, the answer, seen by view, that the input did not fail, and that it did:
-- seen so, it is what the definition makes of all that was left, unless the input failed, before which nothing is refused, or
-- memory ran out.
abbrev pub GivesOf : {X Y : Type 0} → (X → Y) → Option (List ℕ) → (List ℕ → Result Y Refusal) → Result X LineFault → Type 0 → Type 0 → Type 0
GivesOf view left make (Ok x) fine failed = Makes left make (Ok (view x)) × fine
GivesOf view left make (Err (Refused refusal)) fine failed = Makes left make (Err refusal) × fine
GivesOf view left make (Err NoMemory) fine failed = fine
GivesOf view left make (Err ReadFailed) fine failed = failed × ReachesInput make
