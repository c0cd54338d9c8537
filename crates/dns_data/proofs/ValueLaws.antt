-- The laws of the values of fields: what is read is spelled by the items, what the items spell is read, and so is what is printed.
use Rattle.std.proofs.Common.{◌≡◌, ℕ, ◌<◌, ◌^◌, Bool, true, false, inl, decimal, List, [], ◌∷◌, length, Option, Some, None, Ok, refl, ap, subst, ◌∙◌, arith}
use Rattle.std.proofs.NetLemmas.Texts.{IsDotted-ipv4_text, IsColonHex-hex_groups_text}
use Rattle.std.specs.List.{AllByRecursion}
use Rattle.std.specs.Net.Addr.{ipv4_octets, ipv6_segments}
use Rattle.hex.specs.Hex.{encode_lower}
use Rattle.dns_names.specs.Labels.{IsName}
use Rattle.dns_names.specs.Spelling.{name_text}
use Rattle.dns_names.proofs.SymbolLaws.{IsBytes}
use Rattle.dns_names.proofs.ReadingLaws.{text_spells}
use Rattle.dns_data.specs.Items.{ItemText, plain, in_quotes}
use Rattle.dns_data.specs.Strings.{IsString, AreStrings, string_text}
use Rattle.dns_data.specs.Digests.{IsDigest}
use Rattle.dns_data.specs.Fields.{Width, U8, U16, U32, bits, Kind, Name, Number, Seconds, Ipv4, Ipv6, Fields, End, ◌▸◌, Strings, Digest, Value, Values, IsValue, AreValues}
use Rattle.dns_data.specs.Text.{value_text, values_items, strings_items}
use Rattle.dns_data.specs.Grammar.{SpellsValue, SpellValues}
use Rattle.dns_data.specs.Reading.{field, value_of, values_at, strings_of, digest_at}
use Rattle.dns_data.proofs.StepLaws.{bind_ok, done, ok_is}
use Rattle.dns_data.proofs.NumberLaws.{decimal_is_number}
use Rattle.dns_data.proofs.FieldLaws.{AreBytes, IsOrigin, field_found, field_only, name_found, name_only, number_value, number_value_only, seconds_value, seconds_value_only, ipv4_sound, ipv4_only, ipv6_sound, ipv6_only}
use Rattle.dns_data.proofs.StringsLaws.{strings_found, strings_only, strings_spell, some_strings}
use Rattle.dns_data.proofs.JoinedLaws.{digest_at_found, digest_at_only, digest_prints}
use Rattle.dns_data.proofs.OctetLaws.{IsPlainText, decimal_plain, ipv4_plain, ipv6_plain, digest_plain}

-- ---- values that are read

-- a value is spelled by the text that it is read from
value_found : (origin : Option (List (List ℕ))) → IsOrigin origin → (kind : Kind) (raw : List ℕ) (v : Value kind) → IsBytes raw → value_of origin kind raw ≡ Ok v → SpellsValue origin kind v raw
value_found origin is Name raw v bytes e = name_found origin is raw v bytes e
value_found origin is (Number width) raw v bytes e = number_value width raw v e
value_found origin is Seconds raw v bytes e = seconds_value raw v e
value_found origin is Ipv4 raw v bytes e = ipv4_sound raw v e
value_found origin is Ipv6 raw v bytes e = ipv6_sound raw v e

-- what was read, with nothing left after it
at_end : {X : Type 0} (x y : X) (rest : List ItemText) → done {A = X × List ItemText} (x, rest) ≡ done (y, []) → (x ≡ y) × (rest ≡ [])
at_end {X} x y rest e = let same = ok_is (x, rest) (y, []) e in (ap (λ (q : X × List ItemText). q.0) same, ap (λ (q : X × List ItemText). q.1) same)

-- values are spelled by the items that they are read from
pub values_found : (origin : Option (List (List ℕ))) → IsOrigin origin → (fields : Fields) (items : List ItemText) (v : Values fields) → AreBytes items → values_at origin fields items ≡ Ok (v, []) → SpellValues origin fields v items
unfolding values_at
values_found origin is End items v bytes e = (at_end tt v items e).1
values_found origin is (kind ▸ fields) items v bytes e =
    let a = bind_ok (field (value_of origin kind) items) _ (v, []) e in
    let b = bind_ok (values_at origin fields a.0.1) _ (v, []) a.2 in
    let both : Value kind × Values fields = (a.0.0, b.0.0) in
    let end = at_end both v b.0.1 b.2 in
    let f = field_found (value_of origin kind) (SpellsValue origin kind) (value_found origin is kind) items a.0.0 a.0.1 bytes a.1 in
    let others = values_found origin is fields a.0.1 b.0.0 f.bytes (b.1 ∙ ap (λ (t : List ItemText). done (b.0.0, t)) end.1) in
    subst (λ (w : Value kind × Values fields). SpellValues origin (kind ▸ fields) w items) end.0 (f.raw, a.0.1, f.items_are, f.spelled, others)
values_found origin is Strings items v bytes e =
    let a = bind_ok (strings_of items) _ (v, []) e in
    strings_found items v bytes (a.1 ∙ ap done (at_end a.0 v [] a.2).0)
values_found origin is Digest items v bytes e =
    let a = bind_ok (digest_at items) _ (v, []) e in
    digest_at_found items v (a.1 ∙ ap done (at_end a.0 v [] a.2).0)

-- ---- values that are spelled

-- what a text spells is read
value_only : (origin : Option (List (List ℕ))) → IsOrigin origin → (kind : Kind) (raw : List ℕ) (v : Value kind) → SpellsValue origin kind v raw → value_of origin kind raw ≡ Ok v
value_only origin is Name raw v h = name_only origin is raw v h
value_only origin is (Number width) raw v h = number_value_only width raw v h
value_only origin is Seconds raw v h = seconds_value_only raw v h
value_only origin is Ipv4 raw v h = ipv4_only raw v h
value_only origin is Ipv6 raw v h = ipv6_only raw v h

-- what items spell is read
pub values_only : (origin : Option (List (List ℕ))) → IsOrigin origin → (fields : Fields) (items : List ItemText) (v : Values fields) → SpellValues origin fields v items → values_at origin fields items ≡ Ok (v, [])
unfolding values_at
values_only origin is End items v h = rw h refl
values_only origin is (kind ▸ fields) items v (raw, rest, items_are, spelled, more) =
    rw (items_are, field_only (value_of origin kind) raw v.0 rest (value_only origin is kind raw v.0 spelled), values_only origin is fields rest v.1 more) refl
values_only origin is Strings items v h = rw (strings_only v items h.0 h.1) refl
values_only origin is Digest items v h = rw (digest_at_only items v h) refl

-- ---- values that are spelled with no origin are so with any

value_relative : (origin : List (List ℕ)) (kind : Kind) (v : Value kind) (raw : List ℕ) → SpellsValue None kind v raw → SpellsValue (Some origin) kind v raw
value_relative origin Name v raw h = (h.0, inl h.1)
value_relative origin kind v raw h = h

pub values_relative : (origin : List (List ℕ)) (fields : Fields) (v : Values fields) (items : List ItemText) → SpellValues None fields v items → SpellValues (Some origin) fields v items
values_relative origin (kind ▸ fields) v items (raw, rest, items_are, spelled, more) = (raw, rest, items_are, value_relative origin kind v.0 raw spelled, values_relative origin fields v.1 rest more)
values_relative origin End v items h = h
values_relative origin Strings v items h = h
values_relative origin Digest v items h = h

-- ---- values that are printed

number_small : (width : Width) (n : ℕ) → n < 2 ^ bits width → n < 2 ^ 64
number_small U8 n h = omega arith
number_small U16 n h = omega arith
number_small U32 n h = omega arith

-- the printed text of a value spells it
value_spells : (kind : Kind) (v : Value kind) → IsValue kind v → SpellsValue None kind v (value_text kind v)
value_spells Name v is = (is, text_spells v is)
value_spells (Number width) v is = (is, decimal_is_number v (number_small width v is))
value_spells Seconds v is = (is, inl (decimal_is_number v (number_small U32 v is)))
value_spells Ipv4 v is = IsDotted-ipv4_text (ipv4_octets v) is.0 is.1
value_spells Ipv6 v is = IsColonHex-hex_groups_text (ipv6_segments v) is.0 is.1

-- the printed items of values spell them
pub values_spell : (fields : Fields) (v : Values fields) → AreValues fields v → SpellValues None fields v (values_items fields v)
values_spell End v is = refl
values_spell (kind ▸ fields) v is = (value_text kind v.0, values_items fields v.1, refl, value_spells kind v.0 is.0, values_spell fields v.1 is.1)
values_spell Strings v is = (is, strings_spell v is.each)
values_spell Digest v is = digest_prints v is

-- What holds of the texts of names, and of digits, letters from a to f, dots and colons, holds of the text of a value.
pub value_holds : (P : List ℕ → Type 0) → ((name : List (List ℕ)) → IsName name → P (name_text name)) → ((text : List ℕ) → IsPlainText text → P text) → (kind : Kind) (v : Value kind) → IsValue kind v → P (value_text kind v)
value_holds P names plains Name v is = names v is
value_holds P names plains (Number width) v is = plains (decimal v) (decimal_plain v (number_small width v is))
value_holds P names plains Seconds v is = plains (decimal v) (decimal_plain v (number_small U32 v is))
value_holds P names plains Ipv4 v is = plains (value_text Ipv4 v) (ipv4_plain v is)
value_holds P names plains Ipv6 v is = plains (value_text Ipv6 v) (ipv6_plain v is)

module _ (P : ItemText → Type 0) (names : (name : List (List ℕ)) → IsName name → P (plain (name_text name))) (plains : (text : List ℕ) → IsPlainText text → P (plain text)) (strings : (string : List ℕ) → IsString string → P (in_quotes (string_text string))) where
  strings_hold : (all : List (List ℕ)) → AllByRecursion IsString all → AllByRecursion P (strings_items all)
  strings_hold [] is = tt
  strings_hold (string ∷ all) is = (strings string is.0, strings_hold all is.1)

  -- what holds of the items of names, of such texts and of character-strings holds of the items of all values
  pub items_hold : (fields : Fields) (v : Values fields) → AreValues fields v → AllByRecursion P (values_items fields v)
  items_hold End v is = tt
  items_hold (kind ▸ fields) v is = (value_holds (λ text. P (plain text)) names plains kind v.0 is.0, items_hold fields v.1 is.1)
  items_hold Strings v is = strings_hold v is.each
  items_hold Digest v is = (plains (encode_lower v) (digest_plain v is), tt)

-- ---- the last field

-- what holds of a field that takes all items that are left
abbrev pub IsLast : (fields : Fields) → Values fields → Type 0
IsLast End v = Unit {0}
IsLast (kind ▸ fields) v = IsLast fields v.1
IsLast Strings v = AreStrings v
IsLast Digest v = IsDigest v

pub last_is : (fields : Fields) (v : Values fields) → AreValues fields v → IsLast fields v
last_is End v is = tt
last_is (kind ▸ fields) v is = last_is fields v.1 is.1
last_is Strings v is = is
last_is Digest v is = is

-- fields that are some
abbrev pub is_some : Fields → Bool
is_some End = false
is_some fields = true

pub some_values : (fields : Fields) (v : Values fields) → is_some fields ≡ true → IsLast fields v → 0 < length (values_items fields v)
some_values End v some is = absurd cc
some_values (kind ▸ fields) v some is = omega arith
some_values Strings v some is = some_strings v is.some
some_values Digest v some is = omega arith
