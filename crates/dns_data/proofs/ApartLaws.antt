-- Data of one type with one text are one.
use Rattle.std.proofs.Common.{◌≡◌, ℕ, List, [], ◌∷◌, None, refl, sym, ap, subst, ◌∙◌}
use Rattle.std.specs.List.{AllByRecursion}
use Rattle.dns_data.specs.declared.record_type.RecordType.{RecordType}
use Rattle.dns_data.specs.declared.rdata.Data.{Data}
use Rattle.dns_data.specs.Items.{ItemText, plain, items_text}
use Rattle.dns_data.specs.Fields.{Fields, End, ◌▸◌, Strings, Digest, Values}
use Rattle.dns_data.specs.Types.{fields_of}
use Rattle.dns_data.specs.Rdata.{type_of, data_with, IsRdata}
use Rattle.dns_data.specs.Reading.{data_of}
use Rattle.dns_data.specs.Text.{value_text, values_items, data_items, data_text}
use Rattle.dns_data.proofs.StepLaws.{ok_is}
use Rattle.dns_data.proofs.TextLemmas.{behind_item}
use Rattle.dns_data.proofs.ValueLaws.{IsLast, last_is, some_values}
use Rattle.dns_data.proofs.DataLaws.{each_data, type_with, items_with, are_values, data_again}
use Rattle.dns_data.proofs.CutLemmas.{IsVisible, value_visible, first_cut, strings_apart}

-- ---- values of fields

abbrev Apart : (fields : Fields) → Values fields → Values fields → Type 0
Apart fields v w = items_text (values_items fields v) ≡ items_text (values_items fields w) → values_items fields v ≡ values_items fields w

-- after one more item
one_more : (x y : List ℕ) (fields : Fields) (v w : Values fields) → AllByRecursion IsVisible x → AllByRecursion IsVisible y → IsLast fields v → IsLast fields w → Apart fields v w
    → items_text (plain x ∷ values_items fields v) ≡ items_text (plain y ∷ values_items fields w) → plain x ∷ values_items fields v ≡ plain y ∷ values_items fields w
one_more x y End v w seen also is is' rest e = ap (λ (text : List ℕ). plain text ∷ []) e
one_more x y fields v w seen also is is' rest e =
    let ours = values_items fields v in
    let theirs = values_items fields w in
    let cut = first_cut x y (items_text ours) (items_text theirs) seen also (behind_item x ours (some_values fields v refl is) ∙ e ∙ sym (behind_item y theirs (some_values fields w refl is'))) in
    ap (λ (text : List ℕ). plain text ∷ ours) cut.0 ∙ ap (λ (items : List ItemText). plain y ∷ items) (rest cut.1)

-- values with one text have the same items
values_apart : (fields : Fields) (v w : Values fields) → IsLast fields v → IsLast fields w → Apart fields v w
values_apart End v w is is' e = refl
values_apart (kind ▸ fields) v w is is' e =
    one_more (value_text kind v.0) (value_text kind w.0) fields v.1 w.1 (value_visible kind v.0) (value_visible kind w.0) is is' (values_apart fields v.1 w.1 is is') e
values_apart Strings v w is is' e = strings_apart v w e
values_apart Digest v w is is' e = ap (λ (text : List ℕ). plain text ∷ []) e

-- ---- data

-- and so have data of one type
items_apart : (t u : RecordType) (v : Values (fields_of t)) (w : Values (fields_of u)) → t ≡ u → IsRdata (data_with t v) → IsRdata (data_with u w) → data_text (data_with t v) ≡ data_text (data_with u w) → data_items (data_with t v) ≡ data_items (data_with u w)
items_apart t u v w e is = subst At e here w
  where
    At : RecordType → Type 0
    At k = (x : Values (fields_of k)) → IsRdata (data_with k x) → data_text (data_with t v) ≡ data_text (data_with k x) → data_items (data_with t v) ≡ data_items (data_with k x)

    here : At t
    here x is' same =
        let ours = items_with t v in
        let theirs = items_with t x in
        ours ∙ values_apart (fields_of t) v x (last_is (fields_of t) v (are_values t v is)) (last_is (fields_of t) x (are_values t x is')) (ap items_text (sym ours) ∙ same ∙ ap items_text theirs) ∙ sym theirs

pub one_text : (a b : Data) → IsRdata a → IsRdata b → type_of a ≡ type_of b → data_text a ≡ data_text b → a ≡ b
one_text a b = each_data (λ d. Told d b) (λ t v. each_data (Told (data_with t v)) (λ u w. told t u v w) b) a
  where
    Told : Data → Data → Type 0
    Told c d = IsRdata c → IsRdata d → type_of c ≡ type_of d → data_text c ≡ data_text d → c ≡ d

    told : (t u : RecordType) (v : Values (fields_of t)) (w : Values (fields_of u)) → Told (data_with t v) (data_with u w)
    told t u v w is is' types texts =
        let c = data_with t v in
        let d = data_with u w in
        let type_is = ap (λ (k : RecordType). data_of k None (data_items c)) types in
        let items_are = ap (data_of (type_of d) None) (items_apart t u v w (sym (type_with t v) ∙ types ∙ type_with u w) is is' texts) in
        ok_is c d (sym (data_again c is) ∙ type_is ∙ items_are ∙ data_again d is')
