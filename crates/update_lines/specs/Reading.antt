-- The update of a text of item lines, with the refusal that comes first.
use Rattle.std.specs.Prelude.{ℕ, ◌-◌, List, [], ◌∷◌, ◌++◌, length, map, if◌then◌else◌, Option, Some, None, option_and_then, Result, Ok, Err}
use Rattle.std.specs.Result.{result_ok}
use Rattle.dns_names.specs.Reading.{absolute_name}
use Rattle.dns_data.specs.declared.rdata.Data.{Data}
use Rattle.dns_data.specs.declared.record.Record.{Record}
use Rattle.dns_data.specs.declared.record_type.RecordType.{RecordType}
use Rattle.dns_data.specs.Items.{ItemText}
use Rattle.dns_data.specs.Numbers.{duration_of}
use Rattle.dns_data.specs.Types.{type_named}
use Rattle.dns_data.specs.Reading.{data_of}
use Rattle.dns_master.specs.Lines.{line_at}
use Rattle.dns_master.specs.Entries.{Entry, entries}
use Rattle.dns_master.specs.Reader.{text_of}
use Rattle.dns_master.specs.Faults.{on_lines}
use Rattle.dns_master.specs.Files.{first_left}
use Rattle.zone_core.specs.declared.kind.PrerequisiteKind.{PrerequisiteKind}
use Rattle.zone_core.specs.declared.kind.PrerequisiteKind.TheVariants as tests
use Rattle.zone_core.specs.declared.kind.OperationKind.{OperationKind}
use Rattle.zone_core.specs.declared.kind.OperationKind.TheVariants as changes
use Rattle.zone_core.specs.declared.update.Prerequisite.{Prerequisite}
use Rattle.zone_core.specs.declared.update.Prerequisite.TheVariants.{RrsetExists, RrsetEquals, RrsetAbsent, NameUsed, NameUnused}
use Rattle.zone_core.specs.declared.update.Operation.{Operation}
use Rattle.zone_core.specs.declared.update.Operation.TheVariants.{Add, DeleteRrset, DeleteName, DeleteRecord}
use Rattle.zone_core.specs.Kinds.{prerequisite_named, operation_named}
use Rattle.zone_core.specs.Updates.{UpdateOf, update_of}
use Rattle.update_lines.specs.declared.items_fault.ItemsFault.{ItemsFault}
use Rattle.update_lines.specs.declared.items_fault.ItemsFault.TheVariants.{BadLine}
use Rattle.update_lines.specs.declared.item.UpdateItem.{UpdateItem}
use Rattle.update_lines.specs.declared.item.UpdateItem.TheVariants as items
use Rattle.update_lines.specs.ItemFaults.{◌>>=◌, of_shapes, of_updates}

-- the next step, unless this one failed
infixl 10 ◌>>?◌
abbrev pub ◌>>?◌ : {A B : Type 0} → Option A → (A → Option B) → Option B
o >>? f = option_and_then f o

-- ---- fields

-- the octets of an item that is not quoted
abbrev pub unquoted : ItemText → Option (List ℕ)
unquoted item = if item.quoted then None else Some item.raw

-- an absolute name
abbrev pub name_at : ItemText → Option (List (List ℕ))
name_at item = unquoted item >>? λ raw. result_ok (absolute_name raw)

-- a TTL of 31 bits, with units or without (RFC 2181 section 8)
abbrev pub ttl_at : ItemText → Option ℕ
ttl_at item = unquoted item >>? λ raw. result_ok (duration_of 2147483647 raw)

-- a kept type, by its name in either letter case
abbrev pub type_at : ItemText → Option RecordType
type_at item = unquoted item >>? type_named

-- ---- what stands after the words

-- a name, and no more
abbrev pub name_alone : List ItemText → Option (List (List ℕ))
name_alone (owner ∷ []) = name_at owner
name_alone items = None

-- a type, and no more
abbrev pub type_alone : List ItemText → Option RecordType
type_alone (kind ∷ []) = type_at kind
type_alone items = None

-- a name and a type, and no more
abbrev pub set_at : List ItemText → Option (List (List ℕ) × RecordType)
set_at [] = None
set_at (owner ∷ kinds) = name_at owner >>? λ name. type_alone kinds >>? λ t. Some (name, t)

-- a type and data of it
abbrev pub data_at : List ItemText → Option Data
data_at [] = None
data_at (kind ∷ fields) = type_at kind >>? λ t. result_ok (data_of t None fields)

-- a name, a type and data of it
abbrev pub datum_at : List ItemText → Option (List (List ℕ) × Data)
datum_at [] = None
datum_at (owner ∷ typed) = name_at owner >>? λ name. data_at typed >>? λ rdata. Some (name, rdata)

-- a name, a TTL, a type and data of it
abbrev pub record_at : List ItemText → Option Record
record_at (owner ∷ seconds ∷ typed) =
    name_at owner >>? λ name. ttl_at seconds >>? λ ttl. data_at typed >>? λ rdata. Some (record { owner = name; ttl = ttl; rdata = rdata })
record_at items = None

-- ---- items

-- a prerequisite of a kind (RFC 2136 section 2.4)
abbrev pub prerequisite_of : PrerequisiteKind → List ItemText → Option Prerequisite
prerequisite_of tests.RrsetExists texts = set_at texts >>? λ s. Some (RrsetExists s.0 s.1)
prerequisite_of tests.RrsetEquals texts = datum_at texts >>? λ d. Some (RrsetEquals d.0 d.1)
prerequisite_of tests.RrsetAbsent texts = set_at texts >>? λ s. Some (RrsetAbsent s.0 s.1)
prerequisite_of tests.NameUsed texts = name_alone texts >>? λ name. Some (NameUsed name)
prerequisite_of tests.NameUnused texts = name_alone texts >>? λ name. Some (NameUnused name)

-- an operation of a kind (RFC 2136 section 2.5)
abbrev pub operation_of : OperationKind → List ItemText → Option Operation
operation_of changes.Add texts = record_at texts >>? λ r. Some (Add r)
operation_of changes.DeleteRrset texts = set_at texts >>? λ s. Some (DeleteRrset s.0 s.1)
operation_of changes.DeleteName texts = name_alone texts >>? λ name. Some (DeleteName name)
operation_of changes.DeleteRecord texts = datum_at texts >>? λ d. Some (DeleteRecord d.0 d.1)

-- an item of a word that names no kind of prerequisite
abbrev pub operation_item : Option OperationKind → List ItemText → Option UpdateItem
operation_item None texts = None
operation_item (Some kind) texts = operation_of kind texts >>? λ op. Some (items.Operation op)

-- an item of a kind of prerequisite, or else of operation
abbrev pub kind_item : Option PrerequisiteKind → Option OperationKind → List ItemText → Option UpdateItem
kind_item None change texts = operation_item change texts
kind_item (Some kind) change texts = prerequisite_of kind texts >>? λ p. Some (items.Prerequisite p)

-- the item that the items of an entry are: a word, and what stands after it
abbrev pub update_item : List ItemText → Option UpdateItem
update_item [] = None
update_item (word ∷ texts) = unquoted word >>? λ raw. kind_item (prerequisite_named raw) (operation_named raw) texts

-- ---- all items

-- an entry: the line of its first item, and its items
pub record EntryLine : Type 0 where
  pub line : ℕ
  pub items : List ItemText

-- no prerequisites and no operations
abbrev pub no_items : UpdateOf
no_items = record { prerequisites = []; operations = [] }

-- an item alone, in its list
abbrev pub one_item : UpdateItem → UpdateOf
one_item (items.Prerequisite p) = record { prerequisites = p ∷ []; operations = [] }
one_item (items.Operation op) = record { prerequisites = []; operations = op ∷ [] }

-- two lists after two others, each after its own
abbrev pub behind : UpdateOf → UpdateOf → UpdateOf
behind front back = record { prerequisites = front.prerequisites ++ back.prerequisites; operations = front.operations ++ back.operations }

-- an item, or the line of an entry that is not one
abbrev pub or_bad_line : {A : Type 0} → ℕ → Option A → Result A ItemsFault
or_bad_line line None = Err (BadLine line)
or_bad_line line (Some x) = Ok x

-- the prerequisites and the operations of entries, each in order, or the line of the first entry that is no item
abbrev pub lists_in : List EntryLine → Result UpdateOf ItemsFault
lists_in [] = Ok no_items
lists_in (e ∷ es) = or_bad_line e.line (update_item e.items) >>= λ item. lists_in es >>= λ others. Ok (behind (one_item item) others)

-- an entry of a text, with its line
abbrev pub entry_line : List ℕ → Entry → EntryLine
entry_line text e = record { line = line_at text (length text - first_left e.items); items = map text_of e.items }

-- the prerequisites and the operations of a text, or the line of the parenthesis or quote at fault anywhere, else that of the
-- first entry that is no item
abbrev pub lists_of : List ℕ → Result UpdateOf ItemsFault
lists_of text = of_shapes (on_lines text (entries text)) >>= λ es. lists_in (map (entry_line text) es)

-- the update of a text, or its first refusal: that of its items, and then that of the items as an update
abbrev pub items_of : List ℕ → Result UpdateOf ItemsFault
items_of text = lists_of text >>= λ lists. of_updates (update_of lists.prerequisites lists.operations)
