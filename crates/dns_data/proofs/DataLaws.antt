-- The laws of record data: what is read is spelled by the items, what the items spell is read, and so is what is printed.
use Rattle.std.proofs.Common.{◌≡◌, ℕ, ◌<◌, eqb, false, List, [], length, Option, Some, None, Ok, refl, sym, ap, subst, ◌∙◌, eqb-true}
use Rattle.std.proofs.lemmas.List.{nil_from_length}
use Rattle.std.specs.List.{AllByRecursion}
use Rattle.dns_names.specs.Labels.{IsName}
use Rattle.dns_names.specs.Spelling.{name_text}
use Rattle.dns_data.specs.declared.data_fault.DataFault.TheVariants.{FieldExtra, TypeNotKept}
use Rattle.dns_data.specs.declared.record_type.RecordType.{RecordType}
use Rattle.dns_data.specs.declared.record_type.RecordType.TheVariants as types
use Rattle.dns_data.specs.declared.rdata.Data.{Data}
use Rattle.dns_data.specs.declared.rdata.Data.TheVariants.{A}
use Rattle.dns_data.specs.Faults.{◌>>=◌}
use Rattle.dns_data.specs.Items.{ItemText, plain, in_quotes, is_generic}
use Rattle.dns_data.specs.Fields.{Values, AreValues}
use Rattle.dns_data.specs.Types.{fields_of}
use Rattle.dns_data.specs.Rdata.{by_parts, type_of, data_with, IsRdata}
use Rattle.dns_data.specs.Strings.{IsString, string_text}
use Rattle.dns_data.specs.Text.{values_items, data_items}
use Rattle.dns_data.specs.Grammar.{SpellValues, IsData}
use Rattle.dns_data.specs.Reading.{Field, values_at, data_of_values, data_at, ended, data_of}
use Rattle.dns_data.proofs.StepLaws.{bind_ok, guarded_ok, needed_ok, done, ok_is}
use Rattle.dns_data.proofs.FieldLaws.{AreBytes, IsOrigin}
use Rattle.dns_data.proofs.GenericLaws.{IsOther, other_fails, other_told, name_other, text_other, string_other, begins_other}
use Rattle.dns_data.proofs.KeptLaws.{each_passes}
use Rattle.dns_data.proofs.OctetLaws.{IsPlainText}
use Rattle.dns_data.proofs.ValueLaws.{values_found, values_only, values_relative, values_spell, items_hold, last_is, is_some, some_values}

-- ---- data and their parts

-- a type and the values of its fields
abbrev pub Parts : Type 0
Parts = (t : RecordType) × Values (fields_of t)

abbrev parts : Data → Parts
parts = by_parts (λ t v. (t, v))

with_parts : (rdata : Data) → data_with (parts rdata).0 (parts rdata).1 ≡ rdata
with_parts (A address) = refl
with_parts rdata = refl

-- what holds of the data with any values holds of all data
pub each_data : (P : Data → Type 0) → ((t : RecordType) (v : Values (fields_of t)) → P (data_with t v)) → (rdata : Data) → P rdata
each_data P each rdata = subst P (with_parts rdata) (each (parts rdata).0 (parts rdata).1)

-- and what is said of data is said of these values
pub type_with : (t : RecordType) (v : Values (fields_of t)) → type_of (data_with t v) ≡ t
type_with types.A v = refl
type_with t v = refl

pub items_with : (t : RecordType) (v : Values (fields_of t)) → data_items (data_with t v) ≡ values_items (fields_of t) v
items_with types.A v = refl
items_with t v = refl

pub are_values : (t : RecordType) (v : Values (fields_of t)) → IsRdata (data_with t v) → AreValues (fields_of t) v
are_values types.Soa v is = (is.mname, (is.rname, (is.serial, (is.refresh, (is.retry, (is.expire, (is.minimum, tt)))))))
are_values t v is = is

-- the items spell the values
abbrev Spelled : Option (List (List ℕ)) → Data → List ItemText → Type 0
Spelled origin rdata items = by_parts (λ t v. SpellValues origin (fields_of t) v items) rdata

spelled_with : (origin : Option (List (List ℕ))) (t : RecordType) (v : Values (fields_of t)) (items : List ItemText) → SpellValues origin (fields_of t) v items → Spelled origin (data_with t v) items
spelled_with origin types.A v items h = h
spelled_with origin t v items h = h

values_spelled : (origin : Option (List (List ℕ))) (t : RecordType) (v : Values (fields_of t)) (items : List ItemText) → Spelled origin (data_with t v) items → SpellValues origin (fields_of t) v items
values_spelled origin types.A v items h = h
values_spelled origin t v items h = h

read_with : (t : RecordType) (origin : Option (List (List ℕ))) (items : List ItemText) → data_at t origin items ≡ data_of_values t (values_at origin (fields_of t) items)
read_with types.A origin items = refl
read_with t origin items = refl

-- ---- data that are read

-- data that were read, by their values
pub record ReadData (t : RecordType) (origin : Option (List (List ℕ))) (items : List ItemText) (made : Data) : Type 0 where
  pub other : is_generic items ≡ false
  pub v : Values (fields_of t)
  pub read_is : values_at origin (fields_of t) items ≡ Ok (v, [])
  pub same : data_with t v ≡ made

-- data that end after their last field
ended_ok : (d made : Data) (rest : List ItemText) → ended (d, rest) ≡ Ok made → (d ≡ made) × (rest ≡ [])
ended_ok d made rest e =
    let g = needed_ok (eqb (length rest) 0) FieldExtra (done d) made e in
    (ok_is d made g.1, nil_from_length rest (eqb-true (length rest) 0 g.0))

read_data : (t : RecordType) (origin : Option (List (List ℕ))) (items : List ItemText) (made : Data) → data_of t origin items ≡ Ok made → ReadData t origin items made
read_data t origin items made e =
    let g = guarded_ok (is_generic items) TypeNotKept (data_at t origin items >>= ended) made e in
    let a = bind_ok (data_at t origin items) ended made g.1 in
    let b = bind_ok (values_at origin (fields_of t) items) _ a.0 (sym (read_with t origin items) ∙ a.1) in
    let same : (data_with t b.0.0, b.0.1) ≡ a.0 = ok_is _ a.0 b.2 in
    let end = ended_ok (data_with t b.0.0) made b.0.1 (ap ended same ∙ a.2) in
    record { other = g.0; v = b.0.0; read_is = b.1 ∙ ap (λ (rest : List ItemText). done (b.0.0, rest)) end.1; same = end.0 }

-- data that are read are of the type
pub data_typed : (t : RecordType) (origin : Option (List (List ℕ))) (items : List ItemText) (made : Data) → data_of t origin items ≡ Ok made → type_of made ≡ t
data_typed t origin items made e = let r = read_data t origin items made e in ap type_of (sym r.same) ∙ type_with t r.v

-- and the items spell them
pub data_found : (t : RecordType) (origin : Option (List (List ℕ))) (items : List ItemText) (made : Data) → IsOrigin origin → AreBytes items → data_of t origin items ≡ Ok made → (type_of made ≡ t) × IsData origin made items
data_found t origin items made is bytes e =
    let r = read_data t origin items made e in
    let spelled = subst (λ (d : Data). Spelled origin d items) r.same (spelled_with origin t r.v items (values_found origin is (fields_of t) items r.v bytes r.read_is)) in
    (data_typed t origin items made e, (other_told items r.other, spelled))

-- ---- data that are spelled

-- what the items spell is read
pub data_only : (t : RecordType) (origin : Option (List (List ℕ))) (items : List ItemText) (made : Data) → IsOrigin origin → type_of made ≡ t → IsData origin made items → data_of t origin items ≡ Ok made
data_only t origin items made is of (other, spelled) =
    rw (other_fails items other) (subst (λ (k : RecordType). Spelled origin made items → (data_at k origin items >>= ended) ≡ Ok made) of (each_data Only each made) spelled)
  where
    Only : Data → Type 0
    Only d = Spelled origin d items → (data_at (type_of d) origin items >>= ended) ≡ Ok d

    each : (k : RecordType) (v : Values (fields_of k)) → Only (data_with k v)
    each k v h =
        ap (λ (u : RecordType). data_at u origin items >>= ended) (type_with k v) ∙ ap (λ (r : Field Data). r >>= ended) (read_with k origin items)
        ∙ ap (λ (r : Field (Values (fields_of k))). data_of_values k r >>= ended) (values_only origin is (fields_of k) items v (values_spelled origin k v items h))

-- what is spelled with no origin is so with any
pub data_relative : (origin : List (List ℕ)) (made : Data) (items : List ItemText) → IsData None made items → IsData (Some origin) made items
data_relative origin made items (other, spelled) =
    let relative =
    each_data (λ d. Spelled None d items → Spelled (Some origin) d items)
    (λ t v h. spelled_with (Some origin) t v items (values_relative origin (fields_of t) v items (values_spelled None t v items h))) made in
    (other, relative spelled)

-- ---- data that are printed

-- What holds of the items of names, of digits, letters from a to f, dots and colons, and of character-strings, holds of the
-- items of all data.
pub each_item : (P : ItemText → Type 0) → ((name : List (List ℕ)) → IsName name → P (plain (name_text name))) → ((text : List ℕ) → IsPlainText text → P (plain text)) → ((string : List ℕ) → IsString string → P (in_quotes (string_text string)))
    → (made : Data) → IsRdata made → AllByRecursion P (data_items made)
each_item P names plains strings =
    each_data (λ d. IsRdata d → AllByRecursion P (data_items d))
    (λ t v is. rw (items_with t v) (items_hold P names plains strings (fields_of t) v (are_values t v is)))

-- the printed items spell the data
printed_spelled : (made : Data) → IsRdata made → Spelled None made (data_items made)
printed_spelled =
    each_data (λ d. IsRdata d → Spelled None d (data_items d))
    (λ t v is. rw (items_with t v) (spelled_with None t v (values_items (fields_of t) v) (values_spell (fields_of t) v (are_values t v is))))

-- and are not in the generic form
pub data_spells : (made : Data) → IsRdata made → IsData None made (data_items made)
data_spells made is =
    (begins_other (data_items made) (each_item IsOther name_other text_other (λ string is. string_other (string_text string)) made is), printed_spelled made is)

-- what is printed is read again
pub data_again : (made : Data) → IsRdata made → data_of (type_of made) None (data_items made) ≡ Ok made
data_again made is = data_only (type_of made) None (data_items made) made tt refl (data_spells made is)

-- data have an item
pub some_items : (made : Data) → IsRdata made → 0 < length (data_items made)
some_items =
    each_data (λ d. IsRdata d → 0 < length (data_items d))
    (λ t v is. rw (items_with t v) (some_values (fields_of t) v (each_passes (λ k. is_some (fields_of k)) refl t) (last_is (fields_of t) v (are_values t v is))))
