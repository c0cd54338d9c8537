-- The grammar of item lines: the prerequisites and operations of an update as text, an item for each entry that is not blank.
-- The items of an entry are told apart as those of a master file (RFC 1035 section 5.1); prerequisites and operations are
-- those of RFC 2136 sections 2.4 and 2.5.
use Rattle.std.specs.Prelude.{◌≡◌, ℕ, List, [], ◌∷◌, ◌++◌, None}
use Rattle.dns_data.specs.declared.rdata.Data.{Data}
use Rattle.dns_data.specs.declared.record.Record.{Record}
use Rattle.dns_data.specs.declared.record_type.RecordType.{RecordType}
use Rattle.dns_data.specs.Items.{ItemText, plain}
use Rattle.dns_data.specs.Types.{IsCalled}
use Rattle.dns_data.specs.Rdata.{type_of}
use Rattle.dns_data.specs.Grammar.{IsNameItem, IsData}
use Rattle.dns_master.specs.EntryTexts.{EntryText, AreEntries}
use Rattle.dns_master.specs.EntryGrammar.{SpellsTtl}
use Rattle.zone_core.specs.declared.update.Prerequisite.{Prerequisite}
use Rattle.zone_core.specs.declared.update.Prerequisite.TheVariants.{RrsetExists, RrsetEquals, RrsetAbsent, NameUsed, NameUnused}
use Rattle.zone_core.specs.declared.update.Operation.{Operation}
use Rattle.zone_core.specs.declared.update.Operation.TheVariants.{Add, DeleteRrset, DeleteName, DeleteRecord}
use Rattle.zone_core.specs.Kinds.{prerequisite_word, operation_word, prerequisite_kind, operation_kind}
use Rattle.zone_core.specs.Updates.{UpdateOf}
use Rattle.update_lines.specs.declared.item.UpdateItem.{UpdateItem}
use Rattle.update_lines.specs.declared.item.UpdateItem.TheVariants as items

-- ---- fields

-- a type as one item, in either letter case
abbrev pub IsTypeItem : RecordType → List ItemText → Type 0
IsTypeItem record_type items = (raw : List ℕ) × (items ≡ plain raw ∷ []) × IsCalled record_type raw

-- a TTL as one item, with units or without (RFC 2181 section 8)
abbrev pub IsTtlItem : ℕ → List ItemText → Type 0
IsTtlItem ttl items = (raw : List ℕ) × (items ≡ plain raw ∷ []) × SpellsTtl ttl raw

-- an absolute name and a type
pub record IsSetText (name : List (List ℕ)) (record_type : RecordType) (items : List ItemText) : Type 0 where
  pub owner : List ItemText
  pub kind : List ItemText
  pub items_are : items ≡ owner ++ kind
  pub owner_is : IsNameItem None name owner
  pub kind_is : IsTypeItem record_type kind

-- an absolute name, a type and data of it
pub record IsDatumText (name : List (List ℕ)) (rdata : Data) (items : List ItemText) : Type 0 where
  pub owner : List ItemText
  pub kind : List ItemText
  pub fields : List ItemText
  pub items_are : items ≡ owner ++ (kind ++ fields)
  pub owner_is : IsNameItem None name owner
  pub kind_is : IsTypeItem (type_of rdata) kind
  pub fields_are : IsData None rdata fields

-- an absolute name, a TTL, a type and data of it
pub record IsRecordText (r : Record) (items : List ItemText) : Type 0 where
  pub owner : List ItemText
  pub ttl : List ItemText
  pub kind : List ItemText
  pub fields : List ItemText
  pub items_are : items ≡ owner ++ (ttl ++ (kind ++ fields))
  pub owner_is : IsNameItem None r.owner owner
  pub ttl_is : IsTtlItem r.ttl ttl
  pub kind_is : IsTypeItem (type_of r.rdata) kind
  pub fields_are : IsData None r.rdata fields

-- ---- items

-- what stands after the word of a prerequisite (RFC 2136 section 2.4)
abbrev pub TestsText : Prerequisite → List ItemText → Type 0
TestsText (RrsetExists name record_type) items = IsSetText name record_type items
TestsText (RrsetEquals name rdata) items = IsDatumText name rdata items
TestsText (RrsetAbsent name record_type) items = IsSetText name record_type items
TestsText (NameUsed name) items = IsNameItem None name items
TestsText (NameUnused name) items = IsNameItem None name items

-- what stands after the word of an operation (RFC 2136 section 2.5)
abbrev pub ChangesText : Operation → List ItemText → Type 0
ChangesText (Add r) items = IsRecordText r items
ChangesText (DeleteRrset name record_type) items = IsSetText name record_type items
ChangesText (DeleteName name) items = IsNameItem None name items
ChangesText (DeleteRecord name rdata) items = IsDatumText name rdata items

-- the word of an item as it is written, unquoted, and what stands after it
abbrev pub IsItem : UpdateItem → List ItemText → Type 0
IsItem (items.Prerequisite p) texts = (rest : List ItemText) × (texts ≡ plain (prerequisite_word (prerequisite_kind p)) ∷ rest) × TestsText p rest
IsItem (items.Operation op) texts = (rest : List ItemText) × (texts ≡ plain (operation_word (operation_kind op)) ∷ rest) × ChangesText op rest

-- ---- texts

-- each entry is an item; white space before it says nothing
abbrev pub AreItemsOf : List UpdateItem → List EntryText → Type 0
AreItemsOf [] [] = Unit {0}
AreItemsOf (item ∷ all) (e ∷ es) = IsItem item e.items × AreItemsOf all es
AreItemsOf all es = ⊥

-- the prerequisites among items, in order
abbrev pub prerequisites_of : List UpdateItem → List Prerequisite
prerequisites_of [] = []
prerequisites_of ((items.Prerequisite p) ∷ all) = p ∷ prerequisites_of all
prerequisites_of ((items.Operation op) ∷ all) = prerequisites_of all

-- the operations among items, in order
abbrev pub operations_of : List UpdateItem → List Operation
operations_of [] = []
operations_of ((items.Prerequisite p) ∷ all) = operations_of all
operations_of ((items.Operation op) ∷ all) = op ∷ operations_of all

-- the entries of a text are items, and these are its prerequisites and its operations
pub record IsUpdateText (text : List ℕ) (update : UpdateOf) : Type 0 where
  pub of_entries : List EntryText
  pub of_items : List UpdateItem
  pub entries_are : AreEntries text of_entries
  pub items_are : AreItemsOf of_items of_entries
  pub prerequisites : update.prerequisites ≡ prerequisites_of of_items
  pub operations : update.operations ≡ operations_of of_items
