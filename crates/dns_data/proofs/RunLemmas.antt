-- Printing the octets of a string in runs.
use Rattle.std.proofs.Common.{◌≡◌, ℕ, zero, suc, ◌+◌, ◌-◌, ◌<◌, ◌/◌, ◌%◌, ◌≤◌, Bool, true, false, cond, leb, ltb, eqb, List, [], ◌∷◌, ◌++◌, length, take, drop, get_or, Some, None, refl, sym, ap, subst, ◌∙◌, append_assoc, append-nil, length-drop, arith}
use Rattle.std.specs.Prelude.{◌||◌, ◌&&◌, not}
use Rattle.std.specs.List.{AllByRecursion, prefix_len, position}
use Rattle.std.specs.Str.{IsAscii, IsUtf8}
use Rattle.std.proofs.lemmas.Bool.{and_parts, leb-true, ltb-false, cond_both}
use Rattle.std.proofs.lemmas.Bool.Decides.{nat_tests}
use Rattle.std.proofs.lemmas.Grind.{flat_map-append}
use Rattle.std.proofs.lemmas.List.{take-append-drop, take_all, drop_more}
use Rattle.std.proofs.lemmas.Str.{IsUtf8-from_ascii}
use Rattle.dns_names.specs.Spelling.{three_digits}
use Rattle.dns_names.proofs.TextLemmas.{ascii_from}
use Rattle.dns_data.specs.Strings.{is_escaped, octet_text, string_text}

abbrev pub ArePlain : List ℕ → Type 0
ArePlain octets = AllByRecursion (λ o. is_escaped o ≡ false) octets

-- ---- single octets

-- a printed octet, by its tests
by_tests : (marked graphic : Bool) (a b c : List ℕ) → (not graphic || marked) ≡ false → cond marked a (cond graphic b c) ≡ b
by_tests true true a b c e = absurd cc
by_tests true false a b c e = absurd cc
by_tests false true a b c e = refl
by_tests false false a b c e = absurd cc

plain_octet : (o : ℕ) → is_escaped o ≡ false → octet_text o ≡ o ∷ []
plain_octet o e = by_tests (eqb o 34 || eqb o 92) (leb 32 o && leb o 126) (92 ∷ o ∷ []) (o ∷ []) (92 ∷ three_digits o) e

is_graphic : (marked graphic : Bool) → (not graphic || marked) ≡ false → graphic ≡ true
is_graphic marked true e = refl
is_graphic marked false e = absurd cc

plain_below : (o : ℕ) → is_escaped o ≡ false → o < 128
plain_below o e =
    let graphic = is_graphic (eqb o 34 || eqb o 92) (leb 32 o && leb o 126) e in
    let le : o ≤ 126 = leb-true o 126 (and_parts (leb 32 o) (leb o 126) graphic).1 in
    omega arith

marked_below : (o : ℕ) → eqb o 34 || eqb o 92 ≡ true → o < 128
marked_below o h = grind (arith, nat_tests)

graphic_below : (o : ℕ) → leb 32 o && leb o 126 ≡ true → o < 128
graphic_below o h = grind (arith, nat_tests)

-- an octet is printed in ASCII
octet_ascii : (o : ℕ) → o < 256 → IsAscii (octet_text o)
octet_ascii o fits =
    cond_both (eqb o 34 || eqb o 92) (92 ∷ o ∷ []) (cond (leb 32 o && leb o 126) (o ∷ []) (92 ∷ three_digits o)) IsAscii
    (λ marked. ascii_from (92 ∷ o ∷ []) (backslash, (marked_below o marked, tt)))
    (λ plain. cond_both (leb 32 o && leb o 126) (o ∷ []) (92 ∷ three_digits o) IsAscii
    (λ graphic. ascii_from (o ∷ []) (graphic_below o graphic, tt))
    (λ other. ascii_from (92 ∷ three_digits o) (backslash, (digit (o / 100) (omega arith), (digit (o / 10 % 10) (omega arith), (digit (o % 10) (omega arith), tt))))))
  where
    backslash : 92 < 128
    backslash = omega arith

    digit : (d : ℕ) → d < 10 → 48 + d < 128
    digit d h = omega arith

pub octet_utf8 : (o : ℕ) → o < 256 → IsUtf8 (octet_text o)
octet_utf8 o fits = IsUtf8-from_ascii (octet_text o) (octet_ascii o fits)

-- ---- runs

pub plain_text : (run : List ℕ) → ArePlain run → string_text run ≡ run
plain_text [] plain = refl
plain_text (o ∷ run) plain = rw (plain_octet o plain.0, plain_text run plain.1) refl

plain_ascii : (run : List ℕ) → ArePlain run → IsAscii run
plain_ascii [] plain i = omega arith
plain_ascii (o ∷ run) plain zero = plain_below o plain.0
plain_ascii (o ∷ run) plain (suc i) = plain_ascii run plain.1 i

pub plain_utf8 : (run : List ℕ) → ArePlain run → IsUtf8 run
plain_utf8 run plain = IsUtf8-from_ascii run (plain_ascii run plain)

abbrev run_len : List ℕ → ℕ
run_len octets = prefix_len (λ o. not (is_escaped o)) octets

-- the octets before the first that is escaped
front_plain : (octets : List ℕ) → ArePlain (take (run_len octets) octets)
front_plain [] = tt
front_plain (o ∷ octets) = by_test (is_escaped o) refl (front_plain octets)
  where
    by_test : (b : Bool) → is_escaped o ≡ b → ArePlain (take (run_len octets) octets) → ArePlain (take (cond (not b) (1 + run_len octets) 0) (o ∷ octets))
    by_test true e more = tt
    by_test false e more = let one : 1 + run_len octets ≡ suc (run_len octets) = omega arith in rw one (e, more)

run_is : (octets : List ℕ) (at : ℕ) → position is_escaped octets ≡ Some at → at ≡ run_len octets
run_is octets at e = by_test (ltb (run_len octets) (length octets)) e
  where
    by_test : (b : Bool) → cond b (Some (run_len octets)) None ≡ Some at → at ≡ run_len octets
    by_test true f = cc
    by_test false f = absurd cc

pub run_plain : (octets : List ℕ) (at : ℕ) → position is_escaped octets ≡ Some at → ArePlain (take at octets)
run_plain octets at e = subst (λ (n : ℕ). ArePlain (take n octets)) (sym (run_is octets at e)) (front_plain octets)

pub rest_plain : (octets : List ℕ) → position is_escaped octets ≡ None → ArePlain octets
rest_plain octets e = by_test (ltb (run_len octets) (length octets)) refl e
  where
    by_test : (b : Bool) → ltb (run_len octets) (length octets) ≡ b → cond b (Some (run_len octets)) None ≡ None → ArePlain octets
    by_test true g f = absurd cc
    by_test false g f = subst ArePlain (take_all (run_len octets) octets (ltb-false (run_len octets) (length octets) g)) (front_plain octets)

-- ---- a step

-- a run and the octet after it
run_parts : (octets : List ℕ) (at : ℕ) → at < length octets → (take at octets ++ get_or octets at 0 ∷ []) ++ drop (at + 1) octets ≡ octets
run_parts octets at lt =
    append_assoc (take at octets) (get_or octets at 0 ∷ []) (drop (at + 1) octets) ∙ ap (λ (l : List ℕ). take at octets ++ l) (sym (drop_more octets at 0 lt)) ∙ take-append-drop at octets

-- what was written and what is left
pub step_parts : (string front octets : List ℕ) (at : ℕ) → at < length octets → front ++ octets ≡ string
    → (front ++ (take at octets ++ get_or octets at 0 ∷ [])) ++ take (length octets - (at + 1)) (drop (at + 1) octets) ≡ string
step_parts string front octets at lt e =
    let whole : take (length octets - (at + 1)) (drop (at + 1) octets) ≡ drop (at + 1) octets = take_all (length octets - (at + 1)) (drop (at + 1) octets) (simp length-drop (omega arith)) in
    ap (λ (l : List ℕ). (front ++ (take at octets ++ get_or octets at 0 ∷ [])) ++ l) whole
    ∙ append_assoc front (take at octets ++ get_or octets at 0 ∷ []) (drop (at + 1) octets) ∙ ap (λ (l : List ℕ). front ++ l) (run_parts octets at lt) ∙ e

pub run_text : (front run : List ℕ) (o : ℕ) → ArePlain run → (string_text front ++ run) ++ octet_text o ≡ string_text (front ++ (run ++ o ∷ []))
run_text front run o plain =
    append_assoc (string_text front) run (octet_text o)
    ∙ sym (flat_map-append octet_text front (run ++ o ∷ []) ∙ ap (λ (l : List ℕ). string_text front ++ l)
    (flat_map-append octet_text run (o ∷ []) ∙ ap (λ (l : List ℕ). l ++ (octet_text o ++ [])) (plain_text run plain) ∙ ap (λ (l : List ℕ). run ++ l) (append-nil (octet_text o))))

pub last_text : (front rest : List ℕ) → ArePlain rest → string_text front ++ rest ≡ string_text (front ++ rest)
last_text front rest plain = sym (flat_map-append octet_text front rest ∙ ap (λ (l : List ℕ). string_text front ++ l) (plain_text rest plain))
