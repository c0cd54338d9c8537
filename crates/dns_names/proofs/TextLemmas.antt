-- What the code that prints names writes.
use Rattle.std.proofs.Common.{◌≡◌, ℕ, zero, suc, Bool, true, cond, leb, not, ◌&&◌, get_or, leb-true, refl, ◌<◌, ◌/◌, ◌%◌, ◌+◌, List, [], ◌∷◌, ◌++◌, false, Option, None, Some, sym, ap, subst, ◌∙◌, append-nil, append_assoc, length, length-append, take, ◌≤◌, ltb, inl, inr, arith}
use Rattle.std.specs.List.{flat_map, list_all, position_or_len, prefix_len, AllByRecursion, AllPass}
use Rattle.std.specs.Str.{IsAscii}
use Rattle.std.proofs.lemmas.Bool.{and_parts, cases_lt, cond_both, le-ltb, lt-ltb}
use Rattle.std.proofs.lemmas.Bool.Decides.{nat_tests}
use Rattle.std.proofs.lemmas.List.{get_or-take, length-take}
use Rattle.std.proofs.lemmas.List.Concat.{flat_map-append}
use Rattle.std.proofs.lemmas.List.Folds.{length-prefix_len}
use Rattle.std.proofs.lemmas.List.Sums.{list_all-from_AllPass, prefix_len_passes}
use Rattle.std.specs.Option.{unwrap_or}
use Rattle.dns_names.specs.Spelling.{three_digits, is_special, is_plain, octet_text, label_text, name_text}

-- ---- octets

pub ascii_from : (text : List ℕ) → AllByRecursion (λ o. o < 128) text → IsAscii text
ascii_from [] below i = omega arith
ascii_from (o ∷ text) below zero = below.0
ascii_from (o ∷ text) below (suc i) = ascii_from text below.1 i

special_below : (o : ℕ) → is_special o ≡ true → o < 128
special_below o h = grind (arith, nat_tests)

graphic_below : (o : ℕ) → leb 33 o && leb o 126 ≡ true → o < 128
graphic_below o h = grind (arith, nat_tests)

-- an octet is printed in ASCII
pub octet_is_ascii : (o : ℕ) → o < 256 → IsAscii (octet_text o)
octet_is_ascii o fits =
    cond_both (is_special o) (92 ∷ o ∷ []) (cond (leb 33 o && leb o 126) (o ∷ []) (92 ∷ three_digits o)) IsAscii
    (λ special. ascii_from (92 ∷ o ∷ []) (backslash, (special_below o special, tt)))
    (λ plain. cond_both (leb 33 o && leb o 126) (o ∷ []) (92 ∷ three_digits o) IsAscii
    (λ graphic. ascii_from (o ∷ []) (graphic_below o graphic, tt))
    (λ other. ascii_from (92 ∷ three_digits o) (backslash, (digit (o / 100) (omega arith), (digit (o / 10 % 10) (omega arith), (digit (o % 10) (omega arith), tt))))))
  where
    backslash : 92 < 128
    backslash = omega arith

    digit : (d : ℕ) → d < 10 → 48 + d < 128
    digit d h = omega arith

-- ---- names

-- the text of labels is that of a name which has some
pub some_labels : (name : List (List ℕ)) (text : List ℕ) → text ≡ flat_map label_text name → 0 < length text → text ≡ name_text name
some_labels [] text e some = absurd (omega (arith, ap (length {A = ℕ}) e))
some_labels (label ∷ labels) text e some = e

pub no_label : (name : List (List ℕ)) (text : List ℕ) → text ≡ flat_map label_text name → length text ≡ 0 → 46 ∷ [] ≡ name_text name
no_label [] text e none = refl
no_label (label ∷ labels) text e none =
    absurd (omega (arith, ap (length {A = ℕ}) e, length-append (label_text label) (flat_map label_text labels), length-append (flat_map octet_text label) (46 ∷ [])))

pub labels_text : (name : List (List ℕ)) → (name ≡ [] → ⊥) → flat_map label_text name ≡ name_text name
labels_text [] some = absurd (some refl)
labels_text (label ∷ labels) some = refl

-- ---- runs of octets that are printed as they stand

plain_octet : (o : ℕ) → is_plain o ≡ true → (o < 128) × (octet_text o ≡ o ∷ [])
plain_octet o plain =
    let range = and_parts (leb 33 o && leb o 126) (not (is_special o)) plain in
    let ends = and_parts (leb 33 o) (leb o 126) range.0 in
    let special : is_special o ≡ false = not_true (is_special o) range.1 in
    (omega (arith, leb-true o 126 ends.1), rw (special, range.0) refl)
  where
    not_true : (b : Bool) → not b ≡ true → b ≡ false
    not_true true e = absurd cc
    not_true false e = refl

plain_octets : (run : List ℕ) → list_all is_plain run ≡ true → ((i : ℕ) → get_or run i 0 < 128) × (flat_map octet_text run ≡ run)
plain_octets [] all = (λ i. omega arith, refl)
plain_octets (o ∷ run) all =
    let both = and_parts (is_plain o) (list_all is_plain run) all in
    let here = plain_octet o both.0 in
    let more = plain_octets run both.1 in
    (below more.0 here.0, rw here.1 (ap (λ (l : List ℕ). o ∷ l) more.1))
  where
    below : ((i : ℕ) → get_or run i 0 < 128) → o < 128 → (i : ℕ) → get_or (o ∷ run) i 0 < 128
    below more here zero = here
    below more here (suc i) = more i

pub run_is_ascii : (run : List ℕ) → AllPass is_plain run → IsAscii run
run_is_ascii run all = (plain_octets run (list_all-from_AllPass is_plain run all)).0

pub run_text : (run : List ℕ) → AllPass is_plain run → flat_map octet_text run ≡ run
run_text run all = (plain_octets run (list_all-from_AllPass is_plain run all)).1

-- a label all of which is such a run
pub whole_run : (label : List ℕ) (n : ℕ) → n ≡ prefix_len is_plain label → length label ≤ n → AllPass is_plain label
whole_run label n e all = λ k d h. prefix_len_passes is_plain label k d (omega arith)

-- the run at the beginning of a label
pub run_fits : (label : List ℕ) (n : ℕ) → n ≡ prefix_len is_plain label → n ≤ length label
run_fits label n e = omega (arith, length-prefix_len is_plain label, length-take (prefix_len is_plain label) label)

-- where the first other octet stands, or the end
place_is : (label : List ℕ) → position_or_len (λ o. not (is_plain o)) label ≡ prefix_len is_plain label
place_is [] = refl
place_is (o ∷ label) = rw (twice (is_plain o)) (ap (λ (k : ℕ). cond (is_plain o) (1 + k) 0) (place_is label))
  where
    twice : (b : Bool) → not (not b) ≡ b
    twice true = refl
    twice false = refl

pub place_or_end : (label : List ℕ) (place : Option ℕ)
    → place ≡ cond (ltb (position_or_len (λ o. not (is_plain o)) label) (length label)) (Some (position_or_len (λ o. not (is_plain o)) label)) None
    → unwrap_or place (length label) ≡ prefix_len is_plain label
place_or_end label place e =
    let n = prefix_len is_plain label in
    let whole : place ≡ cond (ltb n (length label)) (Some n) None = e ∙ ap (λ (k : ℕ). cond (ltb k (length label)) (Some k) None) (place_is label) in
    rw whole
    (elim (cases_lt n (length label)) [
      | inl l ↦ rw (lt-ltb n (length label) l) refl
      | inr h ↦ rw (le-ltb n (length label) h) (omega (arith, run_fits label n refl))
    ])

pub first_run : (label run : List ℕ) (n : ℕ) → n ≡ prefix_len is_plain label → run ≡ take n label → AllPass is_plain run
first_run label run n e cut =
    subst (AllPass is_plain) (sym cut) (λ k d h.
    let below : k < n = omega (arith, length-take n label) in
    ap is_plain (get_or-take n label k d below) ∙ prefix_len_passes is_plain label k d (omega arith))

-- a label that is printed as it stands, and the dot, after a text
pub plain_label : (before label with_label all : List ℕ) → AllPass is_plain label → with_label ≡ before ++ label → all ≡ with_label ++ 46 ∷ [] → all ≡ before ++ label_text label
plain_label before label with_label all plain first second =
    rw (second, first) (append_assoc before label (46 ∷ []) ∙ ap (λ (l : List ℕ). before ++ (l ++ 46 ∷ [])) (sym (run_text label plain)))

-- a run and an octet after what was written
pub run_and_octet : (done run : List ℕ) (octet : ℕ) → AllPass is_plain run → (flat_map octet_text done ++ run) ++ octet_text octet ≡ flat_map octet_text (done ++ (run ++ octet ∷ []))
run_and_octet done run octet plain =
    append_assoc (flat_map octet_text done) run (octet_text octet)
    ∙ ap (λ (l : List ℕ). flat_map octet_text done ++ l) (ap (λ (l : List ℕ). l ++ octet_text octet) (sym (run_text run plain)) ∙ ap (λ (l : List ℕ). flat_map octet_text run ++ l) (sym (append-nil (octet_text octet))) ∙ sym (flat_map-append octet_text run (octet ∷ [])))
    ∙ sym (flat_map-append octet_text done (run ++ octet ∷ []))

-- a last run after what was written
pub last_run : (done run label : List ℕ) → AllPass is_plain run → done ++ run ≡ label → flat_map octet_text done ++ run ≡ flat_map octet_text label
last_run done run label plain whole =
    ap (λ (l : List ℕ). flat_map octet_text done ++ l) (sym (run_text run plain)) ∙ sym (flat_map-append octet_text done run) ∙ ap (flat_map octet_text) whole
