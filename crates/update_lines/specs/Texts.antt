-- The one canonical text of an update: prerequisites, then operations, an item a line.
use Rattle.std.specs.Prelude.{ℕ, List, [], ◌∷◌, ◌++◌, decimal}
use Rattle.std.specs.List.{flat_map}
use Rattle.dns_names.specs.Spelling.{name_text}
use Rattle.dns_data.specs.declared.rdata.Data.{Data}
use Rattle.dns_data.specs.declared.record.Record.{Record}
use Rattle.dns_data.specs.declared.record_type.RecordType.{RecordType}
use Rattle.dns_data.specs.Items.{ItemText, plain, items_text}
use Rattle.dns_data.specs.Types.{type_text}
use Rattle.dns_data.specs.Rdata.{type_of}
use Rattle.dns_data.specs.Text.{data_items}
use Rattle.zone_core.specs.declared.update.Prerequisite.{Prerequisite}
use Rattle.zone_core.specs.declared.update.Prerequisite.TheVariants.{RrsetExists, RrsetEquals, RrsetAbsent, NameUsed, NameUnused}
use Rattle.zone_core.specs.declared.update.Operation.{Operation}
use Rattle.zone_core.specs.declared.update.Operation.TheVariants.{Add, DeleteRrset, DeleteName, DeleteRecord}
use Rattle.zone_core.specs.Kinds.{prerequisite_word, operation_word, prerequisite_kind, operation_kind}
use Rattle.zone_core.specs.Updates.{UpdateOf}

-- ---- fields, as they are printed

-- a name and a type
abbrev pub set_items : List (List ℕ) → RecordType → List ItemText
set_items name record_type = plain (name_text name) ∷ plain (type_text record_type) ∷ []

-- a name, a type and data of it
abbrev pub datum_items : List (List ℕ) → Data → List ItemText
datum_items name rdata = plain (name_text name) ∷ plain (type_text (type_of rdata)) ∷ data_items rdata

-- a name, a TTL in seconds, a type and data of it
abbrev pub record_items : Record → List ItemText
record_items r = plain (name_text r.owner) ∷ plain (decimal r.ttl) ∷ plain (type_text (type_of r.rdata)) ∷ data_items r.rdata

-- ---- items

-- what is printed after the word of a prerequisite
abbrev pub test_items : Prerequisite → List ItemText
test_items (RrsetExists name record_type) = set_items name record_type
test_items (RrsetEquals name rdata) = datum_items name rdata
test_items (RrsetAbsent name record_type) = set_items name record_type
test_items (NameUsed name) = plain (name_text name) ∷ []
test_items (NameUnused name) = plain (name_text name) ∷ []

-- what is printed after the word of an operation
abbrev pub change_items : Operation → List ItemText
change_items (Add r) = record_items r
change_items (DeleteRrset name record_type) = set_items name record_type
change_items (DeleteName name) = plain (name_text name) ∷ []
change_items (DeleteRecord name rdata) = datum_items name rdata

-- the word of a prerequisite, and what is printed after it
abbrev pub prerequisite_items : Prerequisite → List ItemText
prerequisite_items p = plain (prerequisite_word (prerequisite_kind p)) ∷ test_items p

-- the word of an operation, and what is printed after it
abbrev pub operation_items : Operation → List ItemText
operation_items op = plain (operation_word (operation_kind op)) ∷ change_items op

-- ---- lines

-- a word and a name, with one space between them, and the line's end
abbrev pub name_line : List ℕ → List (List ℕ) → List ℕ
name_line word name = items_text (plain word ∷ plain (name_text name) ∷ []) ++ 10 ∷ []

-- a word, a name and a type
abbrev pub set_line : List ℕ → List (List ℕ) → RecordType → List ℕ
set_line word name record_type = items_text (plain word ∷ set_items name record_type) ++ 10 ∷ []

-- a word, a name, a type and data of it
abbrev pub datum_line : List ℕ → List (List ℕ) → Data → List ℕ
datum_line word name rdata = items_text (plain word ∷ datum_items name rdata) ++ 10 ∷ []

-- the items of a prerequisite with one space between them, and the line's end
abbrev pub prerequisite_line : Prerequisite → List ℕ
prerequisite_line p = items_text (prerequisite_items p) ++ 10 ∷ []

-- the items of an operation with one space between them, and the line's end
abbrev pub operation_line : Operation → List ℕ
operation_line op = items_text (operation_items op) ++ 10 ∷ []

-- the lines of the prerequisites, and then those of the operations
abbrev pub update_text : UpdateOf → List ℕ
update_text update = flat_map prerequisite_line update.prerequisites ++ flat_map operation_line update.operations
