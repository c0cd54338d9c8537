-- The refusals of item lines, by their published numbers and their lines.
use Rattle.std.specs.Prelude.{◌≡◌, ℕ, Option, Some, None, Result, Ok, Err}
use Rattle.dns_names.specs.declared.name_fault.NameFault.{NameFault}
use Rattle.dns_names.specs.declared.name_fault.NameFault.TheVariants as names
use Rattle.dns_data.specs.declared.data_fault.DataFault.{DataFault}
use Rattle.dns_data.specs.declared.data_fault.DataFault.TheVariants as datas
use Rattle.dns_master.specs.declared.master_fault.MasterFault.{MasterFault}
use Rattle.dns_master.specs.Faults as master
use Rattle.zone_core.specs.declared.faults.UpdateFault.{UpdateFault}
use Rattle.zone_core.specs.Faults.{update_fault_number}
use Rattle.update_lines.specs.declared.items_fault.ItemsFault.{ItemsFault}
use Rattle.update_lines.specs.declared.items_fault.ItemsFault.TheVariants.{BadLine, Update, NoMemory}
use Rattle.update_lines.specs.declared.item_fault.ItemFault.{ItemFault}
use Rattle.update_lines.specs.declared.item_fault.ItemFault.TheVariants as entries

-- the published number of a refusal: 97 for a line, those of updates (89 and 92), and 99 when out of memory
abbrev pub fault_number : ItemsFault → ℕ
fault_number (BadLine line) = 97
fault_number (Update fault) = update_fault_number fault
fault_number NoMemory = 99

-- the line of a refusal that is at one
abbrev pub fault_line : ItemsFault → Option ℕ
fault_line (BadLine line) = Some line
fault_line (Update fault) = None
fault_line NoMemory = None

-- the next step, unless there is a fault
infixl 10 ◌>>=◌
abbrev pub ◌>>=◌ : {A B : Type 0} → Result A ItemsFault → (A → Result B ItemsFault) → Result B ItemsFault
(Ok x) >>= f = f x
(Err e) >>= f = Err e

-- what a call refused with is the refusal of the definition; out of memory says nothing of the definition
abbrev pub Refuses : {Y : Type 0} → ItemsFault → Result Y ItemsFault → Type 0
Refuses NoMemory read = Unit {0}
Refuses fault read = read ≡ Err fault

-- what a call answered, seen by view, is what the definition gives, unless memory ran out
abbrev pub Gives : {X Y : Type 0} → (X → Y) → Result X ItemsFault → Result Y ItemsFault → Type 0
Gives view (Ok x) read = read ≡ Ok (view x)
Gives view (Err e) read = Refuses e read

-- ---- the faults of what items are made of

-- a refusal on a line; only out of memory is on none
abbrev pub at_line : Option ℕ → ItemsFault
at_line (Some line) = BadLine line
at_line None = NoMemory

-- a fault of parentheses or quotes, on its line
abbrev pub of_shape : MasterFault → ItemsFault
of_shape fault = at_line (master.fault_line fault)

-- what a definition of parentheses and quotes gives
abbrev pub of_shapes : {A : Type 0} → Result A MasterFault → Result A ItemsFault
of_shapes (Ok x) = Ok x
of_shapes (Err fault) = Err (of_shape fault)

-- what a definition of updates gives
abbrev pub of_updates : {A : Type 0} → Result A UpdateFault → Result A ItemsFault
of_updates (Ok x) = Ok x
of_updates (Err fault) = Err (Update fault)

-- ---- one entry

-- an entry with a malformed name is not an item
abbrev pub of_name : NameFault → ItemFault
of_name names.NoMemory = entries.NoMemory
of_name fault = entries.NoItem

-- an entry with malformed data, a malformed TTL or an unknown type is not an item
abbrev pub of_data : DataFault → ItemFault
of_data datas.NoMemory = entries.NoMemory
of_data fault = entries.NoItem

-- an entry that is no item, on the line of its first one
abbrev pub on_line : ℕ → ItemFault → ItemsFault
on_line line entries.NoItem = BadLine line
on_line line entries.NoMemory = NoMemory

-- what a call refused is nothing by the definition; out of memory says nothing of the definition
abbrev pub RefusesItem : {Y : Type 0} → ItemFault → Option Y → Type 0
RefusesItem entries.NoMemory read = Unit {0}
RefusesItem entries.NoItem read = read ≡ None

-- what a call answered, seen by view, is what the definition reads, unless memory ran out
abbrev pub Tells : {X Y : Type 0} → (X → Y) → Result X ItemFault → Option Y → Type 0
Tells view (Ok x) read = read ≡ Some (view x)
Tells view (Err e) read = RefusesItem e read
