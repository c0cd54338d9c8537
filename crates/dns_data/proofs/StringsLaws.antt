-- The laws of character-strings that take all items: what is read is spelled by the items, and what they spell is read.
use Rattle.std.proofs.Common.{◌≡◌, ℕ, suc, ◌<◌, ltb, List, [], ◌∷◌, length, Ok, refl, ap, subst, arith, ltb-false, le-ltb}
use Rattle.std.specs.List.{AllByRecursion}
use Rattle.dns_data.specs.declared.data_fault.DataFault.TheVariants.{DataTooLong}
use Rattle.dns_data.specs.Items.{ItemText, in_quotes}
use Rattle.dns_data.specs.Strings.{IsString, AreStrings, strings_len, string_of, string_text}
use Rattle.dns_data.specs.Text.{strings_items}
use Rattle.dns_data.specs.Grammar.{SpellStrings}
use Rattle.dns_data.specs.Reading.{each_string, strings_of}
use Rattle.dns_data.proofs.StepLaws.{bind_ok, guard_ok, ok_is}
use Rattle.dns_data.proofs.StringLaws.{string_found, string_only, string_spells}
use Rattle.dns_data.proofs.FieldLaws.{AreBytes}

-- strings that were read from items, one from each
pub record ReadStrings (items : List ItemText) (strings : List (List ℕ)) : Type 0 where
  pub each : AllByRecursion IsString strings
  pub spelled : SpellStrings strings items
  pub count : length strings ≡ length items

-- the strings of items are spelled by them
pub each_found : (items : List ItemText) (strings : List (List ℕ)) → AreBytes items → each_string items ≡ Ok strings → ReadStrings items strings
unfolding each_string
each_found [] strings bytes e = subst (ReadStrings []) (ok_is [] strings e) (record { each = tt; spelled = refl; count = refl })
each_found (item ∷ items) strings bytes e =
    let a = bind_ok (string_of item.raw) _ strings e in
    let b = bind_ok (each_string items) _ strings a.2 in
    let f = string_found item.raw a.0 bytes.0 a.1 in
    let more = each_found items b.0 bytes.1 b.1 in
    subst (ReadStrings (item ∷ items)) (ok_is (a.0 ∷ b.0) strings b.2)
    (record { each = (f.0, more.each); spelled = (item, items, refl, f.1, more.spelled); count = ap suc more.count })

-- what items spell as strings is read
pub each_only : (strings : List (List ℕ)) (items : List ItemText) → AllByRecursion IsString strings → SpellStrings strings items → each_string items ≡ Ok strings
unfolding each_string
each_only [] items each h = rw h refl
each_only (string ∷ strings) items each (first, others, parts, spelled, more) =
    rw (parts, string_only string first.raw each.0 spelled, each_only strings others each.1 more) refl

-- the strings of TXT data are spelled by the items
pub strings_found : (items : List ItemText) (strings : List (List ℕ)) → AreBytes items → strings_of items ≡ Ok strings → AreStrings strings × SpellStrings strings items
unfolding strings_of
strings_found [] strings bytes e = absurd cc
strings_found (item ∷ items) strings bytes e =
    let b = bind_ok (each_string (item ∷ items)) _ strings e in
    let g = guard_ok (ltb 65535 (strings_len b.0)) DataTooLong b.0 strings b.2 in
    let r = each_found (item ∷ items) b.0 bytes b.1 in
    let count : length b.0 ≡ suc (length items) = r.count in
    subst (λ (ss : List (List ℕ)). AreStrings ss × SpellStrings ss (item ∷ items)) g.1
    (record { each = r.each; some = omega arith; fit = ltb-false 65535 (strings_len b.0) g.0 }, r.spelled)

-- strings that are spelled are some items
strings_some : (strings : List (List ℕ)) (items : List ItemText) → AreStrings strings → SpellStrings strings items → each_string items ≡ Ok strings → strings_of items ≡ Ok strings
unfolding strings_of
strings_some [] items are h e = absurd (omega (arith, are.some))
strings_some (string ∷ strings) [] are h e = absurd (let none : [] ≡ h.0 ∷ h.1 = h.2 in cc)
strings_some (string ∷ strings) (item ∷ items) are h e = rw (e, le-ltb 65535 (strings_len (string ∷ strings)) are.fit) refl

-- what items spell as TXT data is read
pub strings_only : (strings : List (List ℕ)) (items : List ItemText) → AreStrings strings → SpellStrings strings items → strings_of items ≡ Ok strings
strings_only strings items are h = strings_some strings items are h (each_only strings items are.each h)

-- the printed strings spell them
pub strings_spell : (strings : List (List ℕ)) → AllByRecursion IsString strings → SpellStrings strings (strings_items strings)
strings_spell [] h = refl
strings_spell (string ∷ strings) h = (in_quotes (string_text string), strings_items strings, refl, string_spells string h.0, strings_spell strings h.1)

-- strings have an item
pub some_strings : (strings : List (List ℕ)) → 0 < length strings → 0 < length (strings_items strings)
some_strings [] some = absurd (omega arith)
some_strings (string ∷ strings) some = omega arith
