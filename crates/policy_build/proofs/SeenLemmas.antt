-- The data of a value of TOML are made of data of values, and its texts are octets.
use Rattle.std.proofs.Common.{◌≡◌, ℕ, ◌<◌, Bool, true, false, cond, List, [], ◌∷◌, Some, Ordering, Less, Equal, Greater, String, Global, string_bytes, refl, sym, ◌∙◌, subst, ltb, ⊎_elim, arith}
use Rattle.std.specs.Char.{encode_utf8}
use Rattle.std.specs.Cmp.Lexicographic.{slice_cmp}
use Rattle.std.specs.Ordering.{nat_cmp, match_ordering}
use Rattle.std.specs.Str.{encode_utf8_all}
use Rattle.std.proofs.lemmas.Bool.{and_parts}
use Rattle.std.proofs.lemmas.Bool.Decides.{Decides-ltb}
use Rattle.std.proofs.lemmas.Str.{IsUtf8-string_bytes}
use Rattle.dns_names.proofs.SymbolLaws.{All-both, IsBytes}
use Rattle.toml.specs.Data.{Data, string, array, table, Items, no_items, item, Members, no_members, member, get_member}
use Rattle.toml.specs.View.{view, view_step, items_view, members_view}
use Rattle.toml.specs.declared.value.Value.{Value, Value-F, out-Value, map-Value, fold_out-Value}
use lib.Utf8.{scalar, scalars, scalar_cases}

-- ---- octets

either : (test : Bool) (xs ys : List ℕ) → (test ≡ true → IsBytes xs) → (test ≡ false → IsBytes ys) → IsBytes (cond test xs ys)
either true xs ys a b = a refl
either false xs ys a b = b refl

encode_bytes : (c : ℕ) → scalar c ≡ true → IsBytes (encode_utf8 c)
unfolding encode_utf8
encode_bytes c is =
    let small : c < 1114112 = ⊎_elim (λ h. omega (arith, h)) (λ h. h.1) (scalar_cases c is) in
    either (ltb c 128) _ _
    (λ t. let lt = (Decides-ltb c 128).0 t in (omega (arith, lt), tt))
    (λ f. either (ltb c 2048) _ _
    (λ t. let lt = (Decides-ltb c 2048).0 t in (omega (arith, lt), (omega arith, tt)))
    (λ f. either (ltb c 65536) _ _
    (λ t. let lt = (Decides-ltb c 65536).0 t in (omega (arith, lt), (omega arith, (omega arith, tt))))
    (λ f. (omega (arith, small), (omega arith, (omega arith, (omega arith, tt)))))))

encodes_bytes : (cs : List ℕ) → scalars cs ≡ true → IsBytes (encode_utf8_all cs)
encodes_bytes [] is = tt
encodes_bytes (c ∷ cs) is =
    let both = and_parts (scalar c) (scalars cs) is in
    All-both (λ o. o < 256) (encode_utf8 c) (encode_utf8_all cs) (encode_bytes c both.0) (encodes_bytes cs both.1)

string_octets : (s : String Global) → IsBytes (string_bytes s)
string_octets s = let is = IsUtf8-string_bytes s in subst IsBytes is.1.1 (encodes_bytes is.0 is.1.0)

-- ---- data

-- what a value of a document says
abbrev pub IsSeen : Data → Type 0
IsSeen d = (v : Value) × (view v ≡ d)

abbrev pub AreSeen : Items → Type 0
AreSeen no_items = Unit {0}
AreSeen (item d ds) = IsSeen d × AreSeen ds

abbrev pub AreMembers : Members → Type 0
AreMembers no_members = Unit {0}
AreMembers (member k d ms) = IsSeen d × AreMembers ms

items_seen : (vs : List Value) → AreSeen (items_view vs)
items_seen [] = tt
items_seen (v ∷ vs) = ((v, refl), items_seen vs)

pub members_seen : (es : List (String Global × Value)) → AreMembers (members_view es)
members_seen [] = tt
members_seen (e ∷ es) = ((e.1, refl), members_seen es)

one_layer : (v : Value) → view v ≡ view_step (map-Value Value Data view (out-Value v))
one_layer v = fold_out-Value Data view_step v

pub text_seen : (text : List ℕ) → IsSeen (string text) → IsBytes text
text_seen text (v, is) = by (out-Value v) (sym (one_layer v) ∙ is)
  where
    by : (o : Value-F Value) → view_step (map-Value Value Data view o) ≡ string text → IsBytes text
    by (Value-F.String s) e = let same : string_bytes s ≡ text = cc in subst IsBytes same (string_octets s)
    by (Value-F.Integer z) e = absurd cc
    by (Value-F.Float x) e = absurd cc
    by (Value-F.Boolean b) e = absurd cc
    by (Value-F.Datetime t) e = absurd cc
    by (Value-F.Array w) e = absurd cc
    by (Value-F.Table m) e = absurd cc

pub array_seen : (ds : Items) → IsSeen (array ds) → AreSeen ds
array_seen ds (v, is) = by (out-Value v) (sym (one_layer v) ∙ is)
  where
    by : (o : Value-F Value) → view_step (map-Value Value Data view o) ≡ array ds → AreSeen ds
    by (Value-F.String s) e = absurd cc
    by (Value-F.Integer z) e = absurd cc
    by (Value-F.Float x) e = absurd cc
    by (Value-F.Boolean b) e = absurd cc
    by (Value-F.Datetime t) e = absurd cc
    by (Value-F.Array w) e = let whole : array (items_view w.items) ≡ array ds = e in let same : items_view w.items ≡ ds = cc in subst AreSeen same (items_seen w.items)
    by (Value-F.Table m) e = absurd cc

pub table_seen : (ms : Members) → IsSeen (table ms) → AreMembers ms
table_seen ms (v, is) = by (out-Value v) (sym (one_layer v) ∙ is)
  where
    by : (o : Value-F Value) → view_step (map-Value Value Data view o) ≡ table ms → AreMembers ms
    by (Value-F.String s) e = absurd cc
    by (Value-F.Integer z) e = absurd cc
    by (Value-F.Float x) e = absurd cc
    by (Value-F.Boolean b) e = absurd cc
    by (Value-F.Datetime t) e = absurd cc
    by (Value-F.Array w) e = absurd cc
    by (Value-F.Table m) e = let whole : table (members_view m.entries) ≡ table ms = e in let same : members_view m.entries ≡ ms = cc in subst AreMembers same (members_seen m.entries)

-- the value at a key
pub member_seen : (k : List ℕ) (ms : Members) (d : Data) → AreMembers ms → get_member k ms ≡ Some d → IsSeen d
member_seen k no_members d seen e = absurd cc
member_seen k (member l x ms) d seen e = by (slice_cmp nat_cmp k l) (λ f. member_seen k ms d seen.1 f) e
  where
    by : (o : Ordering) → (get_member k ms ≡ Some d → IsSeen d) → match_ordering o (get_member k ms) (Some x) (get_member k ms) ≡ Some d → IsSeen d
    by Less on f = on f
    by Equal on f = let same : x ≡ d = cc in subst IsSeen same seen.0
    by Greater on f = on f
