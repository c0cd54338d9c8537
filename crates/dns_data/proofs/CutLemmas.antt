-- Texts of items, cut into their items again.
use Rattle.std.proofs.Common.{◌≡◌, ℕ, zero, suc, ◌+◌, ◌<◌, ◌/◌, ◌%◌, ◌&&◌, ◌||◌, Bool, true, false, cond, eqb, leb, List, [], ◌∷◌, ◌++◌, get_or, drop, refl, sym, ap, ◌∙◌, append_assoc, arith}
use Rattle.std.specs.List.{All, AllByRecursion, flat_map}
use Rattle.std.specs.Fmt.{decimal, digits, digits_onto, digit_glyph}
use Rattle.std.proofs.lemmas.Bool.{cond_both, or_parts, ne_eqb}
use Rattle.std.proofs.lemmas.Bool.Decides.{nat_tests}
use Rattle.std.proofs.lemmas.List.Elements.{All-from_recursion, recursion_from_All, All-nil, All-cons, All-append}
use Rattle.std.specs.Prelude.{slice_index}
use Rattle.std.specs.Char.{digit_char}
use Rattle.std.specs.Net.Addr.{ipv4_octets, ipv6_segments}
use Rattle.std.specs.Net.Text.{leading_zero_digits, hex}
use Rattle.dns_names.specs.Spelling.{three_digits, is_special, label_text, name_text}
use Rattle.dns_names.specs.Spelling as names
use Rattle.dns_data.specs.Items.{ItemText, in_quotes, items_text}
use Rattle.dns_data.specs.Strings.{octet_text, string_text}
use Rattle.dns_data.specs.Fields.{Kind, Name, Number, Seconds, Ipv4, Ipv6, Value}
use Rattle.dns_data.specs.Text.{value_text, strings_items}
use Rattle.dns_data.proofs.OctetLaws.{all_dropped, ipv4_holds, segments_hold}
use Rattle.dns_data.proofs.TextLemmas.{behind, strings_text}

-- ---- texts of visible octets

-- an octet after the space
abbrev pub IsVisible : ℕ → Type 0
IsVisible o = 32 < o

abbrev pub AreVisible : List ℕ → Type 0
AreVisible text = All IsVisible text

by_octet : (text : List ℕ) → AllByRecursion IsVisible text → AreVisible text
by_octet text h = All-from_recursion IsVisible text h

backslash : IsVisible 92
backslash = omega arith

dot : IsVisible 46
dot = omega arith

colon : IsVisible 58
colon = omega arith

abbrev head : List ℕ → ℕ
head text = get_or text 0 0

-- so are printed names
digit_visible : (d : ℕ) → IsVisible (48 + d)
digit_visible d = grind (arith, nat_tests)

special_visible : (o : ℕ) → is_special o ≡ true → IsVisible o
special_visible o h = grind (arith, nat_tests)

graphic_visible : (o : ℕ) → leb 33 o && leb o 126 ≡ true → IsVisible o
graphic_visible o h = grind (arith, nat_tests)

octet_visible : (o : ℕ) → AreVisible (names.octet_text o)
octet_visible o =
    cond_both (is_special o) (92 ∷ o ∷ []) (cond (leb 33 o && leb o 126) (o ∷ []) (92 ∷ three_digits o)) AreVisible
    (λ s. by_octet (92 ∷ o ∷ []) (backslash, (special_visible o s, tt)))
    (λ s. cond_both (leb 33 o && leb o 126) (o ∷ []) (92 ∷ three_digits o) AreVisible
    (λ g. by_octet (o ∷ []) (graphic_visible o g, tt))
    (λ g. by_octet (92 ∷ three_digits o) (backslash, (digit_visible (o / 100), (digit_visible (o / 10 % 10), (digit_visible (o % 10), tt))))))

each_visible : {A : Type 0} (f : A → List ℕ) (xs : List A) → ((x : A) → AreVisible (f x)) → AreVisible (flat_map f xs)
each_visible f [] h = by_octet [] tt
each_visible f (x ∷ xs) h = All-append IsVisible (f x) (flat_map f xs) (h x) (each_visible f xs h)

label_visible : (label : List ℕ) → AreVisible (label_text label)
label_visible label = All-append IsVisible (flat_map names.octet_text label) (46 ∷ []) (each_visible names.octet_text label octet_visible) (by_octet (46 ∷ []) (dot, tt))

pub name_visible : (name : List (List ℕ)) → AreVisible (name_text name)
name_visible [] = by_octet (46 ∷ []) (dot, tt)
name_visible (label ∷ labels) = each_visible label_text (label ∷ labels) label_visible

-- and printed numbers
digits_hold : (P : ℕ → Type 0) → ((d : ℕ) → P (digit_glyph false d)) → (k n : ℕ) (text : List ℕ) → All P text → All P (digits_onto k 10 false n text)
digits_hold P glyph zero n text h = h
digits_hold P glyph (suc k) n text h =
    let more = All-cons P (digit_glyph false (n % 10)) text (glyph (n % 10)) h in
    cond_both (eqb (n / 10) 0) _ _ (All P) (λ e. more) (λ e. digits_hold P glyph k (n / 10) (digit_glyph false (n % 10) ∷ text) more)

pub decimal_holds : (P : ℕ → Type 0) → ((d : ℕ) → P (digit_glyph false d)) → (n : ℕ) → All P (decimal n)
unfolding digits
decimal_holds P glyph n = digits_hold P glyph 64 n [] (All-nil P)

glyph_visible : (d : ℕ) → IsVisible (digit_glyph false d)
glyph_visible d = grind (arith, nat_tests)

decimal_visible : (n : ℕ) → AllByRecursion IsVisible (decimal n)
decimal_visible n = recursion_from_All IsVisible (decimal n) (decimal_holds IsVisible glyph_visible n)

segment_visible : (n : ℕ) → AllByRecursion IsVisible (hex n)
unfolding hex
segment_visible n =
    all_dropped IsVisible (leading_zero_digits n) (digit_char (n / 0x1000) ∷ digit_char (n / 0x100 % 16) ∷ digit_char (n / 0x10 % 16) ∷ digit_char (n % 16) ∷ [])
    (shown (n / 0x1000), (shown (n / 0x100 % 16), (shown (n / 0x10 % 16), (shown (n % 16), tt))))
  where
    shown : (d : ℕ) → IsVisible (digit_char d)
    shown d = grind (arith, nat_tests)

segments_visible : (segments : List ℕ) → AllByRecursion (λ s. AllByRecursion IsVisible (hex s)) segments
segments_visible [] = tt
segments_visible (s ∷ segments) = (segment_visible s, segments_visible segments)

-- so is the text of each value
pub value_visible : (kind : Kind) (v : Value kind) → AllByRecursion IsVisible (value_text kind v)
value_visible Name v = recursion_from_All IsVisible (name_text v) (name_visible v)
value_visible (Number width) v = decimal_visible v
value_visible Seconds v = decimal_visible v
value_visible Ipv4 v = ipv4_holds IsVisible dot (ipv4_octets v) (λ k. decimal_visible (slice_index (ipv4_octets v) k))
value_visible Ipv6 v = segments_hold IsVisible colon (ipv6_segments v) (segments_visible (ipv6_segments v))

-- ---- texts of values before a space

-- two such texts that begin alike are one
pub first_cut : (x y s t : List ℕ) → AllByRecursion IsVisible x → AllByRecursion IsVisible y → x ++ 32 ∷ s ≡ y ++ 32 ∷ t → (x ≡ y) × (s ≡ t)
first_cut [] [] s t seen also e = (refl, ap (drop 1) e)
first_cut [] (b ∷ y) s t seen also e = absurd (let first : 32 ≡ b = ap head e in omega (arith, also.0, first))
first_cut (a ∷ x) [] s t seen also e = absurd (let first : a ≡ 32 = ap head e in omega (arith, seen.0, first))
first_cut (a ∷ x) (b ∷ y) s t seen also e =
    let rest = first_cut x y s t seen.1 also.1 (ap (drop 1) e) in
    (ap (λ (o : ℕ). o ∷ x) (ap head e) ∙ ap (λ (l : List ℕ). b ∷ l) rest.0, rest.1)

-- ---- items in quotes

-- a text before the first of two
abbrev before : List ℕ → List ℕ × List ℕ → List ℕ × List ℕ
before front parts = (front ++ parts.0, parts.1)

-- What stands before the first quote that is not escaped, and what stands after it. A backslash may stand before the text.
abbrev cut_at_quote : (escaped : Bool) → List ℕ → List ℕ × List ℕ
cut_at_quote escaped [] = ([], [])
cut_at_quote true (o ∷ rest) = before (o ∷ []) (cut_at_quote false rest)
cut_at_quote false (o ∷ rest) = cond (eqb o 34) ([], rest) (before (o ∷ []) (cut_at_quote (eqb o 92) rest))

-- the first such quote after a printed string is the one that closes it
digit_no_quote : (d : ℕ) → eqb (48 + d) 34 ≡ false
digit_no_quote d = ne_eqb (48 + d) 34 (λ e. omega arith)

digit_no_backslash : (d : ℕ) → d < 10 → eqb (48 + d) 92 ≡ false
digit_no_backslash d h = ne_eqb (48 + d) 92 (λ e. omega arith)

octet_cut : (o : ℕ) (rest : List ℕ) → cut_at_quote false (octet_text o ++ rest) ≡ before (octet_text o) (cut_at_quote false rest)
octet_cut o rest =
    cond_both (eqb o 34 || eqb o 92) (92 ∷ o ∷ []) (cond (leb 32 o && leb o 126) (o ∷ []) (92 ∷ three_digits o)) Cut
    (λ s. refl)
    (λ s. cond_both (leb 32 o && leb o 126) (o ∷ []) (92 ∷ three_digits o) Cut
    (λ p. let other = or_parts (eqb o 34) (eqb o 92) s in rw (other.0, other.1) refl)
    (λ p. rw (digit_no_quote (o / 10 % 10), digit_no_backslash (o / 10 % 10) (omega arith), digit_no_quote (o % 10), digit_no_backslash (o % 10) (omega arith)) refl))
  where
    Cut : List ℕ → Type 0
    Cut text = cut_at_quote false (text ++ rest) ≡ before text (cut_at_quote false rest)

string_cut : (string rest : List ℕ) → cut_at_quote false (string_text string ++ 34 ∷ rest) ≡ (string_text string, rest)
string_cut [] rest = refl
string_cut (o ∷ string) rest =
    ap (cut_at_quote false) (append_assoc (octet_text o) (string_text string) (34 ∷ rest)) ∙ octet_cut o (string_text string ++ 34 ∷ rest) ∙ ap (before (octet_text o)) (string_cut string rest)

first_apart : (string other rest others : List ℕ) → string_text string ++ 34 ∷ rest ≡ string_text other ++ 34 ∷ others → (string_text string ≡ string_text other) × (rest ≡ others)
first_apart string other rest others e =
    let parts = sym (string_cut string rest) ∙ ap (cut_at_quote false) e ∙ string_cut other others in
    (ap (λ (p : List ℕ × List ℕ). p.0) parts, ap (λ (p : List ℕ × List ℕ). p.1) parts)

-- strings with one text are printed the same, one by one
behind_parts : (string : List ℕ) (others : List (List ℕ)) → flat_map behind (string ∷ others) ≡ 32 ∷ 34 ∷ string_text string ++ 34 ∷ flat_map behind others
behind_parts string others = ap (λ (l : List ℕ). 32 ∷ 34 ∷ l) (append_assoc (string_text string) (34 ∷ []) (flat_map behind others))

behind_apart : (strings others : List (List ℕ)) → flat_map behind strings ≡ flat_map behind others → strings_items strings ≡ strings_items others
behind_apart [] [] e = refl
behind_apart [] (other ∷ others) e = absurd cc
behind_apart (string ∷ strings) [] e = absurd cc
behind_apart (string ∷ strings) (other ∷ others) e =
    let first = first_apart string other (flat_map behind strings) (flat_map behind others) (ap (drop 2) (sym (behind_parts string strings) ∙ e ∙ behind_parts other others)) in
    ap (λ (text : List ℕ). in_quotes text ∷ strings_items strings) first.0 ∙ ap (λ (items : List ItemText). in_quotes (string_text other) ∷ items) (behind_apart strings others first.1)

pub strings_apart : (strings others : List (List ℕ)) → items_text (strings_items strings) ≡ items_text (strings_items others) → strings_items strings ≡ strings_items others
strings_apart [] [] e = refl
strings_apart [] (other ∷ others) e = absurd (let no = e ∙ sym (strings_text other others) in cc)
strings_apart (string ∷ strings) [] e = absurd (let no = strings_text string strings ∙ e in cc)
strings_apart (string ∷ strings) (other ∷ others) e = behind_apart (string ∷ strings) (other ∷ others) (ap (λ (l : List ℕ). 32 ∷ l) (strings_text string strings ∙ e ∙ sym (strings_text other others)))
