-- The printed text of an update has its items.
use Rattle.std.proofs.Common.{◌≡◌, ℕ, ◌<◌, ◌≤◌, ◌^◌, inl, List, [], ◌∷◌, ◌++◌, length, map, None, Ok, refl, sym, ap, subst, ◌∙◌, arith, append_assoc}
use Rattle.std.proofs.lemmas.Bool.{le-ltb}
use Rattle.std.specs.Prelude.{decimal}
use Rattle.std.specs.List.{AllByRecursion, flat_map, filter}
use Rattle.dns_names.specs.Labels.{IsName}
use Rattle.dns_names.specs.Spelling.{name_text}
use Rattle.dns_names.proofs.ReadingLaws.{text_spells}
use Rattle.dns_data.specs.declared.rdata.Data.{Data}
use Rattle.dns_data.specs.declared.record.Record.{Record}
use Rattle.dns_data.specs.declared.record_type.RecordType.{RecordType}
use Rattle.dns_data.specs.Items.{ItemText, plain}
use Rattle.dns_data.specs.Types.{type_text}
use Rattle.dns_data.specs.Rdata.{type_of, IsRdata, IsRecord}
use Rattle.dns_data.specs.Grammar.{IsNameItem}
use Rattle.dns_data.specs.Text.{data_items}
use Rattle.dns_data.proofs.NumberLaws.{decimal_is_number}
use Rattle.dns_data.proofs.DataLaws.{data_spells}
use Rattle.dns_master.specs.Entries.{Entry, entries}
use Rattle.dns_master.proofs.CutLaws.{view, entries_are}
use Rattle.dns_master.proofs.CleanLaws.{Clean, name_clean, number_clean, type_clean, data_clean}
use Rattle.dns_master.proofs.LineLaws.{line_text, CleanLine, AreLines, all_lines_read}
use Rattle.zone_core.specs.declared.kind.PrerequisiteKind.{PrerequisiteKind}
use Rattle.zone_core.specs.declared.kind.PrerequisiteKind.TheVariants as tests
use Rattle.zone_core.specs.declared.kind.OperationKind.{OperationKind}
use Rattle.zone_core.specs.declared.kind.OperationKind.TheVariants as changes
use Rattle.zone_core.specs.declared.update.Prerequisite.{Prerequisite}
use Rattle.zone_core.specs.declared.update.Prerequisite.TheVariants.{RrsetExists, RrsetEquals, RrsetAbsent, NameUsed, NameUnused}
use Rattle.zone_core.specs.declared.update.Operation.{Operation}
use Rattle.zone_core.specs.declared.update.Operation.TheVariants.{Add, DeleteRrset, DeleteName, DeleteRecord}
use Rattle.zone_core.specs.Kinds.{prerequisite_word, operation_word, prerequisite_kind, operation_kind}
use Rattle.zone_core.specs.Updates.{UpdateOf, IsPrerequisite, IsOperation, IsUpdate, adds_soa, update_of}
use Rattle.update_lines.specs.declared.item.UpdateItem.{UpdateItem}
use Rattle.update_lines.specs.declared.item.UpdateItem.TheVariants as items
use Rattle.update_lines.specs.ItemFaults.{of_updates}
use Rattle.update_lines.specs.ItemLines.{IsTypeItem, IsTtlItem, IsSetText, IsDatumText, IsRecordText, TestsText, ChangesText, IsItem, AreItemsOf, prerequisites_of, operations_of, IsUpdateText}
use Rattle.update_lines.specs.Reading.{items_of}
use Rattle.update_lines.specs.Texts.{set_items, datum_items, record_items, test_items, change_items, prerequisite_items, operation_items, prerequisite_line, operation_line, update_text}
use Rattle.update_lines.proofs.UpdateLaws.{text_only}

abbrev Labels : Type 0
Labels = List (List ℕ)

-- ---- printed fields are in the grammar

name_printed : (name : Labels) → IsName name → IsNameItem None name (plain (name_text name) ∷ [])
name_printed name is = (name_text name, refl, (is, text_spells name is))

type_printed : (t : RecordType) → IsTypeItem t (plain (type_text t) ∷ [])
type_printed t = (type_text t, refl, refl)

ttl_small : (ttl : ℕ) → ttl ≤ 2147483647 → ttl < 2 ^ 64
ttl_small ttl h = omega arith

ttl_printed : (ttl : ℕ) → ttl ≤ 2147483647 → IsTtlItem ttl (plain (decimal ttl) ∷ [])
ttl_printed ttl h = (decimal ttl, refl, (inl (decimal_is_number ttl (ttl_small ttl h)), h))

set_printed : (name : Labels) (t : RecordType) → IsName name → IsSetText name t (set_items name t)
set_printed name t is = record { owner = plain (name_text name) ∷ []; kind = plain (type_text t) ∷ []; items_are = refl; owner_is = name_printed name is; kind_is = type_printed t }

datum_printed : (name : Labels) (rdata : Data) → IsName name → IsRdata rdata → IsDatumText name rdata (datum_items name rdata)
datum_printed name rdata is r = record {
  owner = plain (name_text name) ∷ [];
  kind = plain (type_text (type_of rdata)) ∷ [];
  fields = data_items rdata;
  items_are = refl;
  owner_is = name_printed name is;
  kind_is = type_printed (type_of rdata);
  fields_are = data_spells rdata r;
}

record_printed : (r : Record) → IsRecord r → IsRecordText r (record_items r)
record_printed r is = record {
  owner = plain (name_text r.owner) ∷ [];
  ttl = plain (decimal r.ttl) ∷ [];
  kind = plain (type_text (type_of r.rdata)) ∷ [];
  fields = data_items r.rdata;
  items_are = refl;
  owner_is = name_printed r.owner is.owner;
  ttl_is = ttl_printed r.ttl is.ttl;
  kind_is = type_printed (type_of r.rdata);
  fields_are = data_spells r.rdata is.rdata;
}

test_printed : (p : Prerequisite) → IsPrerequisite p → TestsText p (test_items p)
test_printed (RrsetExists name t) is = set_printed name t is
test_printed (RrsetEquals name rdata) is = datum_printed name rdata is.0 is.1
test_printed (RrsetAbsent name t) is = set_printed name t is
test_printed (NameUsed name) is = name_printed name is
test_printed (NameUnused name) is = name_printed name is

change_printed : (op : Operation) → IsOperation op → ChangesText op (change_items op)
change_printed (Add r) is = record_printed r is
change_printed (DeleteRrset name t) is = set_printed name t is
change_printed (DeleteName name) is = name_printed name is
change_printed (DeleteRecord name rdata) is = datum_printed name rdata is.0 is.1

-- ---- and each is one item of a line

set_clean : (name : Labels) (t : RecordType) → IsName name → AllByRecursion Clean (set_items name t)
set_clean name t is = (name_clean name is, (type_clean t, tt))

datum_clean : (name : Labels) (rdata : Data) → IsName name → IsRdata rdata → AllByRecursion Clean (datum_items name rdata)
datum_clean name rdata is r = (name_clean name is, (type_clean (type_of rdata), data_clean rdata r))

test_clean : (p : Prerequisite) → IsPrerequisite p → AllByRecursion Clean (test_items p)
test_clean (RrsetExists name t) is = set_clean name t is
test_clean (RrsetEquals name rdata) is = datum_clean name rdata is.0 is.1
test_clean (RrsetAbsent name t) is = set_clean name t is
test_clean (NameUsed name) is = (name_clean name is, tt)
test_clean (NameUnused name) is = (name_clean name is, tt)

change_clean : (op : Operation) → IsOperation op → AllByRecursion Clean (change_items op)
change_clean (Add r) is = (name_clean r.owner is.owner, (number_clean r.ttl (ttl_small r.ttl is.ttl), (type_clean (type_of r.rdata), data_clean r.rdata is.rdata)))
change_clean (DeleteRrset name t) is = set_clean name t is
change_clean (DeleteName name) is = (name_clean name is, tt)
change_clean (DeleteRecord name rdata) is = datum_clean name rdata is.0 is.1

test_word_clean : (kind : PrerequisiteKind) → Clean (plain (prerequisite_word kind))
test_word_clean tests.RrsetExists = refl
test_word_clean tests.RrsetEquals = refl
test_word_clean tests.RrsetAbsent = refl
test_word_clean tests.NameUsed = refl
test_word_clean tests.NameUnused = refl

change_word_clean : (kind : OperationKind) → Clean (plain (operation_word kind))
change_word_clean changes.Add = refl
change_word_clean changes.DeleteRrset = refl
change_word_clean changes.DeleteName = refl
change_word_clean changes.DeleteRecord = refl

-- ---- items

-- the names, the data or the record of an item are such
abbrev IsSound : UpdateItem → Type 0
IsSound (items.Prerequisite p) = IsPrerequisite p
IsSound (items.Operation op) = IsOperation op

-- the items of its line
abbrev item_items : UpdateItem → List ItemText
item_items (items.Prerequisite p) = prerequisite_items p
item_items (items.Operation op) = operation_items op

item_printed : (item : UpdateItem) → IsSound item → IsItem item (item_items item)
item_printed (items.Prerequisite p) is = (test_items p, refl, test_printed p is)
item_printed (items.Operation op) is = (change_items op, refl, change_printed op is)

item_clean : (item : UpdateItem) → IsSound item → CleanLine (item_items item)
item_clean (items.Prerequisite p) is = record { some = omega arith; clean = (test_word_clean (prerequisite_kind p), test_clean p is) }
item_clean (items.Operation op) is = record { some = omega arith; clean = (change_word_clean (operation_kind op), change_clean op is) }

items_clean : (all : List UpdateItem) → AllByRecursion IsSound all → AllByRecursion CleanLine (map item_items all)
items_clean [] h = tt
items_clean (item ∷ all) h = (item_clean item h.0, items_clean all h.1)

items_printed : (all : List UpdateItem) (es : List Entry) → AllByRecursion IsSound all → AreLines es (map item_items all) → AreItemsOf all (map view es)
items_printed [] [] h l = tt
items_printed [] (e ∷ es) h l = absurd l
items_printed (item ∷ all) [] h l = absurd l
items_printed (item ∷ all) (e ∷ es) h l = (subst (IsItem item) (sym l.1) (item_printed item h.0), items_printed all es h.1 l.2)

-- ---- the items of an update, in the order in which they are printed

-- prerequisites, and then operations
abbrev all_items : List Prerequisite → List Operation → List UpdateItem
all_items [] ops = map (λ op. items.Operation op) ops
all_items (p ∷ ps) ops = items.Prerequisite p ∷ all_items ps ops

no_prerequisites : (ops : List Operation) → prerequisites_of (map (λ op. items.Operation op) ops) ≡ []
no_prerequisites [] = refl
no_prerequisites (op ∷ ops) = no_prerequisites ops

all_operations : (ops : List Operation) → operations_of (map (λ op. items.Operation op) ops) ≡ ops
all_operations [] = refl
all_operations (op ∷ ops) = ap (λ (l : List Operation). op ∷ l) (all_operations ops)

prerequisites_are : (ps : List Prerequisite) (ops : List Operation) → prerequisites_of (all_items ps ops) ≡ ps
prerequisites_are [] ops = no_prerequisites ops
prerequisites_are (p ∷ ps) ops = ap (λ (l : List Prerequisite). p ∷ l) (prerequisites_are ps ops)

operations_are : (ps : List Prerequisite) (ops : List Operation) → operations_of (all_items ps ops) ≡ ops
operations_are [] ops = all_operations ops
operations_are (p ∷ ps) ops = operations_are ps ops

operations_sound : (ops : List Operation) → AllByRecursion IsOperation ops → AllByRecursion IsSound (map (λ op. items.Operation op) ops)
operations_sound [] h = tt
operations_sound (op ∷ ops) h = (h.0, operations_sound ops h.1)

all_sound : (ps : List Prerequisite) (ops : List Operation) → AllByRecursion IsPrerequisite ps → AllByRecursion IsOperation ops → AllByRecursion IsSound (all_items ps ops)
all_sound [] ops h k = operations_sound ops k
all_sound (p ∷ ps) ops h k = (h.0, all_sound ps ops h.1 k)

operation_lines : (ops : List Operation) → flat_map operation_line ops ≡ flat_map line_text (map item_items (map (λ op. items.Operation op) ops))
operation_lines [] = refl
operation_lines (op ∷ ops) = ap (λ (t : List ℕ). operation_line op ++ t) (operation_lines ops)

text_lines : (ps : List Prerequisite) (ops : List Operation) → flat_map prerequisite_line ps ++ flat_map operation_line ops ≡ flat_map line_text (map item_items (all_items ps ops))
text_lines [] ops = operation_lines ops
text_lines (p ∷ ps) ops =
    append_assoc (prerequisite_line p) (flat_map prerequisite_line ps) (flat_map operation_line ops) ∙ ap (λ (t : List ℕ). prerequisite_line p ++ t) (text_lines ps ops)

-- ---- the text

pub update_printed : (update : UpdateOf) → IsUpdate update → IsUpdateText (update_text update) update
update_printed update is =
    let all = all_items update.prerequisites update.operations in
    let sound = all_sound update.prerequisites update.operations is.prerequisites is.operations in
    let lines = all_lines_read (map item_items all) (items_clean all sound) in
    record {
      of_entries = map view lines.0;
      of_items = all;
      entries_are = entries_are (update_text update) lines.0 (ap entries (text_lines update.prerequisites update.operations) ∙ lines.1);
      items_are = items_printed all lines.0 sound lines.2;
      prerequisites = sym (prerequisites_are update.prerequisites update.operations);
      operations = sym (operations_are update.prerequisites update.operations);
    }

-- the lists of an update make it
update_again : (update : UpdateOf) → IsUpdate update → update_of update.prerequisites update.operations ≡ Ok update
update_again update is =
    rw (le-ltb 64 (length update.prerequisites) is.few_prerequisites, le-ltb 256 (length update.operations) is.few_operations, le-ltb 1 (length (filter adds_soa update.operations)) is.one_soa) refl

pub update_read : (update : UpdateOf) → IsUpdate update → items_of (update_text update) ≡ Ok update
update_read update is = text_only (update_text update) update (update_printed update is) ∙ ap of_updates (update_again update is)
