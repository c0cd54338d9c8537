-- The generic form of record data: when items are in it, and that no printed item begins it.
use Rattle.std.proofs.Common.{◌≡◌, ℕ, Bool, true, false, List, [], ◌∷◌, Err, refl, sym, ap, ◌∙◌}
use Rattle.std.specs.Prelude.{not, ◌&&◌, bytes_eq}
use Rattle.std.specs.List.{AllByRecursion}
use Rattle.std.proofs.lemmas.Bool.{false≢true}
use Rattle.std.proofs.lemmas.Slice.Eq.{bytes_eq-Decides}
use Rattle.dns_names.specs.declared.name_fault.NameFault.TheVariants.{NotAbsolute}
use Rattle.dns_names.specs.Labels.{IsName}
use Rattle.dns_names.specs.Reading.{symbols_within, absolute_name}
use Rattle.dns_names.specs.Spelling.{name_text}
use Rattle.dns_names.proofs.ReadingLaws.{absolute_again}
use Rattle.dns_data.specs.Items.{ItemText, plain, in_quotes, generic_mark, IsGeneric, is_generic}
use Rattle.dns_data.proofs.OctetLaws.{IsPlainText}

-- ---- the test

mark_is : (item : ItemText) → (not item.quoted && bytes_eq item.raw generic_mark.raw) ≡ true → item ≡ generic_mark
mark_is item e = by_quotes item.raw item.quoted e
  where
    by_quotes : (raw : List ℕ) (quoted : Bool) → (not quoted && bytes_eq raw generic_mark.raw) ≡ true → record { raw = raw; quoted = quoted } ≡ generic_mark
    by_quotes raw true e = absurd (false≢true e)
    by_quotes raw false e = ap plain ((bytes_eq-Decides raw generic_mark.raw).0 e)

-- the test tells the generic form
pub generic_told : (items : List ItemText) → is_generic items ≡ true → IsGeneric items
generic_told [] e = absurd (false≢true e)
generic_told (item ∷ items) e = (items, ap (λ (first : ItemText). first ∷ items) (mark_is item e))

pub generic_passes : (items : List ItemText) → IsGeneric items → is_generic items ≡ true
generic_passes items (rest, e) = ap is_generic e

-- and what is not in it
pub other_fails : (items : List ItemText) → ¬ (IsGeneric items) → is_generic items ≡ false
other_fails items other = by_test (is_generic items) refl
  where
    by_test : (b : Bool) → is_generic items ≡ b → b ≡ false
    by_test true e = absurd (other (generic_told items e))
    by_test false e = refl

pub other_told : (items : List ItemText) → is_generic items ≡ false → ¬ (IsGeneric items)
other_told items e generic = false≢true (sym e ∙ generic_passes items generic)

-- ---- printed items

abbrev pub IsOther : ItemText → Type 0
IsOther item = ¬ (item ≡ generic_mark)

-- `\#` is no absolute name
name_relative : absolute_name generic_mark.raw ≡ Err NotAbsolute
unfolding symbols_within
name_relative = refl

pub name_other : (name : List (List ℕ)) → IsName name → IsOther (plain (name_text name))
name_other name is e =
    let same : name_text name ≡ generic_mark.raw = ap (λ (item : ItemText). item.raw) e in
    let again = absolute_again name is in
    let none = ap absolute_name same ∙ name_relative in
    cc

pub text_other : (text : List ℕ) → IsPlainText text → IsOther (plain text)
text_other text is e =
    let same : text ≡ generic_mark.raw = ap (λ (item : ItemText). item.raw) e in
    let plain_mark = rw same at is.plain in
    false≢true plain_mark.0

pub string_other : (text : List ℕ) → IsOther (in_quotes text)
string_other text e = false≢true (sym (ap (λ (item : ItemText). item.quoted) e))

-- items that begin with another
pub begins_other : (items : List ItemText) → AllByRecursion IsOther items → ¬ (IsGeneric items)
begins_other items all (rest, e) = let others = rw e at all in others.0 refl
