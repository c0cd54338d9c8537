-- One item: what is read is in the grammar, and what is in the grammar is read.
use Rattle.std.proofs.Common.{◌≡◌, ℕ, Bool, true, false, cond, List, [], ◌∷◌, ◌++◌, Option, Some, None, Result, Ok, Err, refl, sym, ap, subst, ◌∙◌}
use Rattle.std.specs.Result.{result_ok}
use Rattle.dns_names.specs.Reading.{absolute_name}
use Rattle.dns_names.proofs.SymbolLaws.{IsBytes}
use Rattle.dns_names.proofs.ReadingLaws.{absolute_found, absolute_only}
use Rattle.dns_data.specs.declared.rdata.Data.{Data}
use Rattle.dns_data.specs.declared.record.Record.{Record}
use Rattle.dns_data.specs.declared.record_type.RecordType.{RecordType}
use Rattle.dns_data.specs.Items.{ItemText, plain}
use Rattle.dns_data.specs.Numbers.{duration_of}
use Rattle.dns_data.specs.Types.{IsCalled, type_named}
use Rattle.dns_data.specs.Rdata.{type_of}
use Rattle.dns_data.specs.Grammar.{SpellsName, IsNameItem, IsData}
use Rattle.dns_data.specs.Reading.{data_of}
use Rattle.dns_data.proofs.FieldLaws.{AreBytes}
use Rattle.dns_data.proofs.NumberLaws.{duration_found, duration_only}
use Rattle.dns_data.proofs.DataLaws.{data_found, data_only}
use Rattle.dns_data.proofs.KeptLaws.{named_called}
use Rattle.dns_master.specs.EntryGrammar.{SpellsTtl}
use Rattle.zone_core.specs.declared.kind.PrerequisiteKind.{PrerequisiteKind}
use Rattle.zone_core.specs.declared.kind.PrerequisiteKind.TheVariants as tests
use Rattle.zone_core.specs.declared.kind.OperationKind.{OperationKind}
use Rattle.zone_core.specs.declared.kind.OperationKind.TheVariants as changes
use Rattle.zone_core.specs.declared.update.Prerequisite.{Prerequisite}
use Rattle.zone_core.specs.declared.update.Prerequisite.TheVariants.{RrsetExists, RrsetEquals, RrsetAbsent, NameUsed, NameUnused}
use Rattle.zone_core.specs.declared.update.Operation.{Operation}
use Rattle.zone_core.specs.declared.update.Operation.TheVariants.{Add, DeleteRrset, DeleteName, DeleteRecord}
use Rattle.zone_core.specs.Kinds.{prerequisite_word, operation_word, prerequisite_named, operation_named, prerequisite_kind, operation_kind}
use Rattle.update_lines.specs.declared.item.UpdateItem.{UpdateItem}
use Rattle.update_lines.specs.declared.item.UpdateItem.TheVariants as items
use Rattle.update_lines.specs.ItemLines.{IsTypeItem, IsTtlItem, IsSetText, IsDatumText, IsRecordText, TestsText, ChangesText, IsItem}
use Rattle.update_lines.specs.Reading.{◌>>?◌, unquoted, name_at, ttl_at, type_at, name_alone, type_alone, set_at, data_at, datum_at, record_at, prerequisite_of, operation_of, operation_item, kind_item, update_item}
use Rattle.zone_core.proofs.KindLemmas.{prerequisite_is, operation_is, no_prerequisite}

abbrev Labels : Type 0
Labels = List (List ℕ)

-- ---- steps that may fail

-- the value of a step that did not fail
step_some : {A B : Type 0} (o : Option A) (f : A → Option B) (y : B) → (o >>? f) ≡ Some y → (x : A) × (o ≡ Some x) × (f x ≡ Some y)
step_some (Some x) f y e = (x, refl, e)
step_some None f y e = absurd cc

some_same : {A : Type 0} (x y : A) → ◌≡◌ {A = Option A} (Some x) (Some y) → x ≡ y
some_same x y e = cc

ok_of : {A E : Type 0} (r : Result A E) (x : A) → result_ok r ≡ Some x → r ≡ Ok x
ok_of (Ok y) x e = cc
ok_of (Err f) x e = absurd cc

-- ---- single fields

abbrev item_with : List ℕ → Bool → ItemText
item_with raw quoted = record { raw = raw; quoted = quoted }

unquoted_with : (raw text : List ℕ) (quoted : Bool) → cond quoted None (Some raw) ≡ Some text → item_with raw quoted ≡ plain text
unquoted_with raw text true e = absurd cc
unquoted_with raw text false e = let same : raw ≡ text = cc in ap plain same

-- an item that is read as unquoted is so
unquoted_is : (item : ItemText) (text : List ℕ) → unquoted item ≡ Some text → item ≡ plain text
unquoted_is item text e = unquoted_with item.raw text item.quoted e

name_found : (item : ItemText) (name : Labels) → IsBytes item.raw → name_at item ≡ Some name → IsNameItem None name (item ∷ [])
name_found item name bytes e =
    let s = step_some (unquoted item) (λ raw. result_ok (absolute_name raw)) name e in
    let p = unquoted_is item s.0 s.1 in
    let octets : IsBytes s.0 = subst IsBytes (ap (λ (i : ItemText). i.raw) p) bytes in
    (s.0, ap (λ (i : ItemText). i ∷ []) p, absolute_found s.0 name octets (ok_of (absolute_name s.0) name s.2))

name_only : (raw : List ℕ) (name : Labels) → SpellsName None name raw → name_at (plain raw) ≡ Some name
name_only raw name h = ap result_ok (absolute_only name raw h.0 h.1)

ttl_found : (item : ItemText) (ttl : ℕ) → ttl_at item ≡ Some ttl → IsTtlItem ttl (item ∷ [])
ttl_found item ttl e =
    let s = step_some (unquoted item) (λ raw. result_ok (duration_of 2147483647 raw)) ttl e in
    (s.0, ap (λ (i : ItemText). i ∷ []) (unquoted_is item s.0 s.1), duration_found 2147483647 s.0 ttl (ok_of (duration_of 2147483647 s.0) ttl s.2))

ttl_only : (raw : List ℕ) (ttl : ℕ) → SpellsTtl ttl raw → ttl_at (plain raw) ≡ Some ttl
ttl_only raw ttl h = ap result_ok (duration_only 2147483647 raw ttl h.0 h.1)

type_found : (item : ItemText) (t : RecordType) → type_at item ≡ Some t → IsTypeItem t (item ∷ [])
type_found item t e =
    let s = step_some (unquoted item) type_named t e in
    (s.0, ap (λ (i : ItemText). i ∷ []) (unquoted_is item s.0 s.1), (named_called s.0 t).0 s.2)

type_only : (raw : List ℕ) (t : RecordType) → IsCalled t raw → type_at (plain raw) ≡ Some t
type_only raw t h = (named_called raw t).1 h

-- ---- what stands after the words is in the grammar

name_alone_found : (texts : List ItemText) (name : Labels) → AreBytes texts → name_alone texts ≡ Some name → IsNameItem None name texts
name_alone_found [] name bytes e = absurd cc
name_alone_found (owner ∷ []) name bytes e = name_found owner name bytes.0 e
name_alone_found (owner ∷ more ∷ texts) name bytes e = absurd cc

type_alone_found : (texts : List ItemText) (t : RecordType) → type_alone texts ≡ Some t → IsTypeItem t texts
type_alone_found [] t e = absurd cc
type_alone_found (kind ∷ []) t e = type_found kind t e
type_alone_found (kind ∷ more ∷ texts) t e = absurd cc

set_found : (texts : List ItemText) (s : Labels × RecordType) → AreBytes texts → set_at texts ≡ Some s → IsSetText s.0 s.1 texts
set_found [] s bytes e = absurd cc
set_found (owner ∷ kinds) s bytes e =
    let n = step_some (name_at owner) (λ name. type_alone kinds >>? λ t. Some (name, t)) s e in
    let t = step_some (type_alone kinds) (λ t. Some (n.0, t)) s n.2 in
    let here : IsSetText n.0 t.0 (owner ∷ kinds) = record { owner = owner ∷ []; kind = kinds; items_are = refl; owner_is = name_found owner n.0 bytes.0 n.1; kind_is = type_alone_found kinds t.0 t.1 } in
    subst (λ (x : Labels × RecordType). IsSetText x.0 x.1 (owner ∷ kinds)) (some_same (n.0, t.0) s t.2) here

-- a type and data of it
record IsTypedText (rdata : Data) (texts : List ItemText) : Type 0 where
  kind : List ItemText
  fields : List ItemText
  texts_are : texts ≡ kind ++ fields
  kind_is : IsTypeItem (type_of rdata) kind
  fields_are : IsData None rdata fields

typed_found : (texts : List ItemText) (rdata : Data) → AreBytes texts → data_at texts ≡ Some rdata → IsTypedText rdata texts
typed_found [] rdata bytes e = absurd cc
typed_found (kind ∷ fields) rdata bytes e =
    let t = step_some (type_at kind) (λ t. result_ok (data_of t None fields)) rdata e in
    let f = data_found t.0 None fields rdata tt bytes.1 (ok_of (data_of t.0 None fields) rdata t.2) in
    record {
      kind = kind ∷ [];
      fields = fields;
      texts_are = refl;
      kind_is = subst (λ (x : RecordType). IsTypeItem x (kind ∷ [])) (sym f.0) (type_found kind t.0 t.1);
      fields_are = f.1;
    }

datum_found : (texts : List ItemText) (d : Labels × Data) → AreBytes texts → datum_at texts ≡ Some d → IsDatumText d.0 d.1 texts
datum_found [] d bytes e = absurd cc
datum_found (owner ∷ typed) d bytes e =
    let n = step_some (name_at owner) (λ name. data_at typed >>? λ rdata. Some (name, rdata)) d e in
    let r = step_some (data_at typed) (λ rdata. Some (n.0, rdata)) d n.2 in
    let f = typed_found typed r.0 bytes.1 r.1 in
    let here : IsDatumText n.0 r.0 (owner ∷ typed) = record {
      owner = owner ∷ [];
      kind = f.kind;
      fields = f.fields;
      items_are = ap (λ (l : List ItemText). owner ∷ l) f.texts_are;
      owner_is = name_found owner n.0 bytes.0 n.1;
      kind_is = f.kind_is;
      fields_are = f.fields_are;
    } in
    subst (λ (x : Labels × Data). IsDatumText x.0 x.1 (owner ∷ typed)) (some_same (n.0, r.0) d r.2) here

abbrev record_with : Labels → ℕ → Data → Record
record_with owner ttl rdata = record { owner = owner; ttl = ttl; rdata = rdata }

record_found : (texts : List ItemText) (r : Record) → AreBytes texts → record_at texts ≡ Some r → IsRecordText r texts
record_found [] r bytes e = absurd cc
record_found (owner ∷ []) r bytes e = absurd cc
record_found (owner ∷ seconds ∷ typed) r bytes e =
    let n = step_some (name_at owner) (λ name. ttl_at seconds >>? λ ttl. data_at typed >>? λ rdata. Some (record_with name ttl rdata)) r e in
    let l = step_some (ttl_at seconds) (λ ttl. data_at typed >>? λ rdata. Some (record_with n.0 ttl rdata)) r n.2 in
    let d = step_some (data_at typed) (λ rdata. Some (record_with n.0 l.0 rdata)) r l.2 in
    let f = typed_found typed d.0 bytes.1.1 d.1 in
    let here : IsRecordText (record_with n.0 l.0 d.0) (owner ∷ seconds ∷ typed) = record {
      owner = owner ∷ [];
      ttl = seconds ∷ [];
      kind = f.kind;
      fields = f.fields;
      items_are = ap (λ (l : List ItemText). owner ∷ seconds ∷ l) f.texts_are;
      owner_is = name_found owner n.0 bytes.0 n.1;
      ttl_is = ttl_found seconds l.0 l.1;
      kind_is = f.kind_is;
      fields_are = f.fields_are;
    } in
    subst (λ (x : Record). IsRecordText x (owner ∷ seconds ∷ typed)) (some_same (record_with n.0 l.0 d.0) r d.2) here

-- ---- and what is in the grammar is read

name_alone_only : (texts : List ItemText) (name : Labels) → IsNameItem None name texts → name_alone texts ≡ Some name
name_alone_only texts name h = ap name_alone h.1 ∙ name_only h.0 name h.2

set_only : (texts : List ItemText) (name : Labels) (t : RecordType) → IsSetText name t texts → set_at texts ≡ Some (name, t)
set_only texts name t h =
    let o = h.owner_is in
    let k = h.kind_is in
    let whole : texts ≡ plain o.0 ∷ plain k.0 ∷ [] = h.items_are ∙ ap (λ (l : List ItemText). l ++ h.kind) o.1 ∙ ap (λ (l : List ItemText). plain o.0 ∷ l) k.1 in
    ap set_at whole
    ∙ ap (λ (x : Option Labels). x >>? λ name. type_at (plain k.0) >>? λ t. Some (name, t)) (name_only o.0 name o.2)
    ∙ ap (λ (x : Option RecordType). x >>? λ t. Some (name, t)) (type_only k.0 t k.2)

typed_only : (kind fields : List ItemText) (rdata : Data) → IsTypeItem (type_of rdata) kind → IsData None rdata fields → data_at (kind ++ fields) ≡ Some rdata
typed_only kind fields rdata k f =
    ap (λ (l : List ItemText). data_at (l ++ fields)) k.1
    ∙ ap (λ (x : Option RecordType). x >>? λ t. result_ok (data_of t None fields)) (type_only k.0 (type_of rdata) k.2)
    ∙ ap result_ok (data_only (type_of rdata) None fields rdata tt refl f)

datum_only : (texts : List ItemText) (name : Labels) (rdata : Data) → IsDatumText name rdata texts → datum_at texts ≡ Some (name, rdata)
datum_only texts name rdata h =
    let o = h.owner_is in
    let typed = h.kind ++ h.fields in
    let whole : texts ≡ plain o.0 ∷ typed = h.items_are ∙ ap (λ (l : List ItemText). l ++ typed) o.1 in
    ap datum_at whole
    ∙ ap (λ (x : Option Labels). x >>? λ name. data_at typed >>? λ rdata. Some (name, rdata)) (name_only o.0 name o.2)
    ∙ ap (λ (x : Option Data). x >>? λ rdata. Some (name, rdata)) (typed_only h.kind h.fields rdata h.kind_is h.fields_are)

record_only : (texts : List ItemText) (r : Record) → IsRecordText r texts → record_at texts ≡ Some r
record_only texts r h =
    let o = h.owner_is in
    let l = h.ttl_is in
    let typed = h.kind ++ h.fields in
    let whole : texts ≡ plain o.0 ∷ plain l.0 ∷ typed = h.items_are ∙ ap (λ (x : List ItemText). x ++ (h.ttl ++ typed)) o.1 ∙ ap (λ (x : List ItemText). plain o.0 ∷ (x ++ typed)) l.1 in
    ap record_at whole
    ∙ ap (λ (x : Option Labels). x >>? λ name. ttl_at (plain l.0) >>? λ ttl. data_at typed >>? λ rdata. Some (record_with name ttl rdata)) (name_only o.0 r.owner o.2)
    ∙ ap (λ (x : Option ℕ). x >>? λ ttl. data_at typed >>? λ rdata. Some (record_with r.owner ttl rdata)) (ttl_only l.0 r.ttl l.2)
    ∙ ap (λ (x : Option Data). x >>? λ rdata. Some (record_with r.owner r.ttl rdata)) (typed_only h.kind h.fields r.rdata h.kind_is h.fields_are)

-- ---- prerequisites and operations

-- a prerequisite of this kind, with what stands after its word
pub record TestRead (kind : PrerequisiteKind) (texts : List ItemText) (p : Prerequisite) : Type 0 where
  pub kind_is : prerequisite_kind p ≡ kind
  pub texts_are : TestsText p texts

test_from : (kind : PrerequisiteKind) (texts : List ItemText) (made p : Prerequisite) → ◌≡◌ {A = Option Prerequisite} (Some made) (Some p) → TestRead kind texts made → TestRead kind texts p
test_from kind texts made p e h = subst (TestRead kind texts) (some_same made p e) h

test_found : (kind : PrerequisiteKind) (texts : List ItemText) (p : Prerequisite) → AreBytes texts → prerequisite_of kind texts ≡ Some p → TestRead kind texts p
test_found tests.RrsetExists texts p bytes e = let s = step_some (set_at texts) _ p e in test_from tests.RrsetExists texts (RrsetExists s.0.0 s.0.1) p s.2 (record { kind_is = refl; texts_are = set_found texts s.0 bytes s.1 })
test_found tests.RrsetEquals texts p bytes e = let s = step_some (datum_at texts) _ p e in test_from tests.RrsetEquals texts (RrsetEquals s.0.0 s.0.1) p s.2 (record { kind_is = refl; texts_are = datum_found texts s.0 bytes s.1 })
test_found tests.RrsetAbsent texts p bytes e = let s = step_some (set_at texts) _ p e in test_from tests.RrsetAbsent texts (RrsetAbsent s.0.0 s.0.1) p s.2 (record { kind_is = refl; texts_are = set_found texts s.0 bytes s.1 })
test_found tests.NameUsed texts p bytes e = let s = step_some (name_alone texts) _ p e in test_from tests.NameUsed texts (NameUsed s.0) p s.2 (record { kind_is = refl; texts_are = name_alone_found texts s.0 bytes s.1 })
test_found tests.NameUnused texts p bytes e = let s = step_some (name_alone texts) _ p e in test_from tests.NameUnused texts (NameUnused s.0) p s.2 (record { kind_is = refl; texts_are = name_alone_found texts s.0 bytes s.1 })

test_only : (p : Prerequisite) (texts : List ItemText) → TestsText p texts → prerequisite_of (prerequisite_kind p) texts ≡ Some p
test_only (RrsetExists name t) texts h = ap (λ (o : Option (Labels × RecordType)). o >>? λ s. Some (RrsetExists s.0 s.1)) (set_only texts name t h)
test_only (RrsetEquals name rdata) texts h = ap (λ (o : Option (Labels × Data)). o >>? λ d. Some (RrsetEquals d.0 d.1)) (datum_only texts name rdata h)
test_only (RrsetAbsent name t) texts h = ap (λ (o : Option (Labels × RecordType)). o >>? λ s. Some (RrsetAbsent s.0 s.1)) (set_only texts name t h)
test_only (NameUsed name) texts h = ap (λ (o : Option Labels). o >>? λ n. Some (NameUsed n)) (name_alone_only texts name h)
test_only (NameUnused name) texts h = ap (λ (o : Option Labels). o >>? λ n. Some (NameUnused n)) (name_alone_only texts name h)

-- an operation of this kind, with what stands after its word
pub record ChangeRead (kind : OperationKind) (texts : List ItemText) (op : Operation) : Type 0 where
  pub kind_is : operation_kind op ≡ kind
  pub texts_are : ChangesText op texts

change_from : (kind : OperationKind) (texts : List ItemText) (made op : Operation) → ◌≡◌ {A = Option Operation} (Some made) (Some op) → ChangeRead kind texts made → ChangeRead kind texts op
change_from kind texts made op e h = subst (ChangeRead kind texts) (some_same made op e) h

change_found : (kind : OperationKind) (texts : List ItemText) (op : Operation) → AreBytes texts → operation_of kind texts ≡ Some op → ChangeRead kind texts op
change_found changes.Add texts op bytes e = let s = step_some (record_at texts) _ op e in change_from changes.Add texts (Add s.0) op s.2 (record { kind_is = refl; texts_are = record_found texts s.0 bytes s.1 })
change_found changes.DeleteRrset texts op bytes e = let s = step_some (set_at texts) _ op e in change_from changes.DeleteRrset texts (DeleteRrset s.0.0 s.0.1) op s.2 (record { kind_is = refl; texts_are = set_found texts s.0 bytes s.1 })
change_found changes.DeleteName texts op bytes e = let s = step_some (name_alone texts) _ op e in change_from changes.DeleteName texts (DeleteName s.0) op s.2 (record { kind_is = refl; texts_are = name_alone_found texts s.0 bytes s.1 })
change_found changes.DeleteRecord texts op bytes e = let s = step_some (datum_at texts) _ op e in change_from changes.DeleteRecord texts (DeleteRecord s.0.0 s.0.1) op s.2 (record { kind_is = refl; texts_are = datum_found texts s.0 bytes s.1 })

change_only : (op : Operation) (texts : List ItemText) → ChangesText op texts → operation_of (operation_kind op) texts ≡ Some op
change_only (Add r) texts h = ap (λ (o : Option Record). o >>? λ r. Some (Add r)) (record_only texts r h)
change_only (DeleteRrset name t) texts h = ap (λ (o : Option (Labels × RecordType)). o >>? λ s. Some (DeleteRrset s.0 s.1)) (set_only texts name t h)
change_only (DeleteName name) texts h = ap (λ (o : Option Labels). o >>? λ n. Some (DeleteName n)) (name_alone_only texts name h)
change_only (DeleteRecord name rdata) texts h = ap (λ (o : Option (Labels × Data)). o >>? λ d. Some (DeleteRecord d.0 d.1)) (datum_only texts name rdata h)

-- ---- items

of_kind : (raw : List ℕ) (texts : List ItemText) (item : UpdateItem) (test : Option PrerequisiteKind) (change : Option OperationKind) → AreBytes texts → prerequisite_named raw ≡ test → operation_named raw ≡ change → kind_item test change texts ≡ Some item → IsItem item (plain raw ∷ texts)
of_kind raw texts item (Some kind) change bytes t h e =
    let s = step_some (prerequisite_of kind texts) (λ p. Some (items.Prerequisite p)) item e in
    let r = test_found kind texts s.0 bytes s.1 in
    let word : raw ≡ prerequisite_word (prerequisite_kind s.0) = sym ((prerequisite_is raw kind).0 t) ∙ ap prerequisite_word (sym r.kind_is) in
    let here : IsItem (items.Prerequisite s.0) (plain raw ∷ texts) = (texts, ap (λ (w : List ℕ). plain w ∷ texts) word, r.texts_are) in
    subst (λ (x : UpdateItem). IsItem x (plain raw ∷ texts)) (some_same (items.Prerequisite s.0) item s.2) here
of_kind raw texts item None (Some kind) bytes t h e =
    let s = step_some (operation_of kind texts) (λ op. Some (items.Operation op)) item e in
    let r = change_found kind texts s.0 bytes s.1 in
    let word : raw ≡ operation_word (operation_kind s.0) = sym ((operation_is raw kind).0 h) ∙ ap operation_word (sym r.kind_is) in
    let here : IsItem (items.Operation s.0) (plain raw ∷ texts) = (texts, ap (λ (w : List ℕ). plain w ∷ texts) word, r.texts_are) in
    subst (λ (x : UpdateItem). IsItem x (plain raw ∷ texts)) (some_same (items.Operation s.0) item s.2) here
of_kind raw texts item None None bytes t h e = absurd cc

pub item_found : (texts : List ItemText) (item : UpdateItem) → AreBytes texts → update_item texts ≡ Some item → IsItem item texts
item_found [] item bytes e = absurd cc
item_found (word ∷ texts) item bytes e =
    let s = step_some (unquoted word) (λ raw. kind_item (prerequisite_named raw) (operation_named raw) texts) item e in
    subst (λ (w : ItemText). IsItem item (w ∷ texts)) (sym (unquoted_is word s.0 s.1)) (of_kind s.0 texts item (prerequisite_named s.0) (operation_named s.0) bytes.1 refl refl s.2)

pub item_only : (texts : List ItemText) (item : UpdateItem) → IsItem item texts → update_item texts ≡ Some item
item_only texts (items.Prerequisite p) h =
    let word = prerequisite_word (prerequisite_kind p) in
    ap update_item h.1
    ∙ ap (λ (t : Option PrerequisiteKind). kind_item t (operation_named word) h.0) ((prerequisite_is word (prerequisite_kind p)).1 refl)
    ∙ ap (λ (o : Option Prerequisite). o >>? λ x. Some (items.Prerequisite x)) (test_only p h.0 h.2)
item_only texts (items.Operation op) h =
    let word = operation_word (operation_kind op) in
    ap update_item h.1
    ∙ ap (λ (t : Option PrerequisiteKind). kind_item t (operation_named word) h.0) (no_prerequisite (operation_kind op))
    ∙ ap (λ (t : Option OperationKind). operation_item t h.0) ((operation_is word (operation_kind op)).1 refl)
    ∙ ap (λ (o : Option Operation). o >>? λ x. Some (items.Operation x)) (change_only op h.0 h.2)
