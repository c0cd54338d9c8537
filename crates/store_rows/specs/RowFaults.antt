-- The refusals of rows.
use Rattle.std.specs.Prelude.{◌≡◌, ℕ, List, if◌then◌else◌, Result, Ok, Err, bytes_eq}
use Rattle.dns_names.specs.declared.name_fault.NameFault.{NameFault}
use Rattle.dns_names.specs.declared.name_fault.NameFault.TheVariants as names
use Rattle.dns_data.specs.declared.data_fault.DataFault.{DataFault}
use Rattle.dns_data.specs.declared.data_fault.DataFault.TheVariants as datas
use Rattle.dns_master.specs.declared.master_fault.MasterFault.{MasterFault}
use Rattle.dns_master.specs.declared.master_fault.MasterFault.TheVariants as masters
use Rattle.grant_policy.specs.declared.identifier.IdentifierFault.{IdentifierFault}
use Rattle.grant_policy.specs.declared.identifier.IdentifierFault.TheVariants as identifiers
use Rattle.update_lines.specs.declared.items_fault.ItemsFault.{ItemsFault}
use Rattle.update_lines.specs.declared.items_fault.ItemsFault.TheVariants as items
use Rattle.store_sql.specs.declared.rows_fault.RowsFault.{RowsFault}
use Rattle.store_sql.specs.declared.rows_fault.RowsFault.TheVariants as tables
use Rattle.zone_core.specs.declared.faults.ZoneFault.{ZoneFault}
use Rattle.zone_core.specs.declared.faults.ZoneFault.TheVariants as zones
use Rattle.store_rows.specs.declared.row_fault.RowFault.{RowFault}
use Rattle.store_rows.specs.declared.row_fault.RowFault.TheVariants.{BadRow, NoMemory}

-- the next step, unless there is a fault
infixl 10 ◌>>=◌
abbrev pub ◌>>=◌ : {A B : Type 0} → Result A RowFault → (A → Result B RowFault) → Result B RowFault
(Ok x) >>= f = f x
(Err e) >>= f = Err e

-- what a call refused with is the refusal of the definition; out of memory says nothing of the definition
abbrev pub Refuses : {Y : Type 0} → RowFault → Result Y RowFault → Type 0
Refuses NoMemory read = Unit {0}
Refuses BadRow read = read ≡ Err BadRow

-- what a call answered, seen by view, is what the definition reads, unless memory ran out
abbrev pub Reads : {X Y : Type 0} → (X → Y) → Result X RowFault → Result Y RowFault → Type 0
Reads view (Ok x) read = read ≡ Ok (view x)
Reads view (Err e) read = Refuses e read

-- what a call answered is so, and only memory can have run out
abbrev pub Answers : {X : Type 0} → (X → Type 0) → Result X RowFault → Type 0
Answers P (Ok x) = P x
Answers P (Err e) = e ≡ NoMemory

-- ---- the faults of what rows are made of, and of tables

-- a row of a table that is not read
abbrev pub of_table : RowFault → RowsFault
of_table BadRow = tables.BadRow
of_table NoMemory = tables.NoMemory

-- a text that is no name
abbrev pub of_name : NameFault → RowFault
of_name names.NoMemory = NoMemory
of_name fault = BadRow

-- items that are no data
abbrev pub of_data : DataFault → RowFault
of_data datas.NoMemory = NoMemory
of_data fault = BadRow

-- a text with a fault of parentheses or quotes
abbrev pub of_master : MasterFault → RowFault
of_master masters.NoMemory = NoMemory
of_master fault = BadRow

-- a text that has no items of an update
abbrev pub of_items : ItemsFault → RowFault
of_items items.NoMemory = NoMemory
of_items fault = BadRow

-- a text that is no identifier
abbrev pub of_identifier : IdentifierFault → RowFault
of_identifier identifiers.NoMemory = NoMemory
of_identifier identifiers.Malformed = BadRow

-- records that make no zone
abbrev pub of_zone : ZoneFault → RowFault
of_zone zones.NoMemory = NoMemory
of_zone fault = BadRow

-- what a definition of names gives
abbrev pub of_names : {A : Type 0} → Result A NameFault → Result A RowFault
of_names (Ok x) = Ok x
of_names (Err fault) = Err (of_name fault)

-- what a definition of data gives
abbrev pub of_datas : {A : Type 0} → Result A DataFault → Result A RowFault
of_datas (Ok x) = Ok x
of_datas (Err fault) = Err (of_data fault)

-- what a definition of master files gives
abbrev pub of_masters : {A : Type 0} → Result A MasterFault → Result A RowFault
of_masters (Ok x) = Ok x
of_masters (Err fault) = Err (of_master fault)

-- what a definition of item lines gives
abbrev pub of_updates_in : {A : Type 0} → Result A ItemsFault → Result A RowFault
of_updates_in (Ok x) = Ok x
of_updates_in (Err fault) = Err (of_items fault)

-- what a definition of zones gives
abbrev pub of_zones : {A : Type 0} → Result A ZoneFault → Result A RowFault
of_zones (Ok zone) = Ok zone
of_zones (Err fault) = Err (of_zone fault)

-- ---- texts that are the one spelling of what they say

-- what was read, if its one spelling is this text
abbrev pub canonical : {A : Type 0} → List ℕ → List ℕ → A → Result A RowFault
canonical spelling text x = if bytes_eq spelling text then Ok x else Err BadRow
