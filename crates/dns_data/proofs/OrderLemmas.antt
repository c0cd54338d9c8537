-- The order of texts of items: the first item that differs decides.
use Rattle.std.proofs.Common.{◌≡◌, ◌≢◌, ℕ, zero, suc, ◌<◌, ◌/◌, ◌%◌, ◌⊎◌, inl, inr, Bool, true, ◌&&◌, List, [], ◌∷◌, ◌++◌, length, refl, sym, ap, ◌∙◌, arith}
use Rattle.std.specs.Prelude.{⊤, slice_index, nat_lt, ◌≤◌}
use Rattle.std.specs.List.{AllByRecursion, list_all}
use Rattle.std.specs.declared.cmp.Ordering.{Ordering}
use Rattle.std.specs.declared.cmp.Ordering.TheVariants.{Less, Equal, Greater}
use Rattle.std.specs.Ordering.{nat_cmp, ordering_then}
use Rattle.std.specs.Cmp.Lexicographic.{slice_cmp}
use Rattle.std.proofs.lemmas.Bool.{and_parts, cases_lt}
use Rattle.std.proofs.lemmas.Bool.Decides.{nat_tests}
use Rattle.hex.specs.Hex.{lower_digits, encode_with, encode_lower}
use Rattle.dns_names.proofs.KeyLaws.{three, tied, less, greater}
use Rattle.dns_data.specs.Items.{plain, items_text}
use Rattle.dns_data.specs.Fields.{Fields, End, ◌▸◌, Strings, Digest, Values}
use Rattle.dns_data.specs.Text.{value_text, strings_items, values_items}
use Rattle.dns_data.proofs.TextLemmas.{behind_item}
use Rattle.dns_data.proofs.ValueLaws.{IsLast, some_values}
use Rattle.dns_data.proofs.CutLemmas.{IsVisible, value_visible}

abbrev pub by_octets : List ℕ → List ℕ → Ordering
by_octets = slice_cmp nat_cmp

-- ---- orders one after the other

then_nothing : (o : Ordering) → ordering_then o Equal ≡ o
then_nothing Less = refl
then_nothing Equal = refl
then_nothing Greater = refl

pub then_assoc : (a b c : Ordering) → ordering_then a (ordering_then b c) ≡ ordering_then (ordering_then a b) c
then_assoc Less b c = refl
then_assoc Equal b c = refl
then_assoc Greater b c = refl

-- the first order decides, unless it ties
pub decided : (o t : Ordering) → o ≢ Equal → o ≡ ordering_then o t
decided Less t differ = refl
decided Equal t differ = absurd (differ refl)
decided Greater t differ = refl

pub tied_then : (o t : Ordering) → o ≡ Equal → t ≡ ordering_then o t
tied_then o t e = ap (λ (x : Ordering). ordering_then x t) (sym e)

-- ---- items of octets above the one that ends them

-- before it they compare as they do alone
pub above_then : (last : ℕ) (x y s t : List ℕ) → AllByRecursion (λ o. last < o) x → AllByRecursion (λ o. last < o) y → by_octets (x ++ last ∷ s) (y ++ last ∷ t) ≡ ordering_then (by_octets x y) (by_octets s t)
above_then last [] [] s t above also = rw (tied last) refl
above_then last [] (b ∷ y) s t above also = rw (less last b also.0) refl
above_then last (a ∷ x) [] s t above also = rw (greater a last above.0) refl
above_then last (a ∷ x) (b ∷ y) s t above also =
    elim (three a b) [
      | inl l ↦ rw l.0 refl
      | inr r ↦ elim r [
        | inl e ↦ rw (e, tied b) (above_then last x y s t above.1 also.1)
        | inr g ↦ rw g.0 refl
      ]
    ]

-- ---- digests

abbrev list_rises : List ℕ → Bool
list_rises [] = true
list_rises (x ∷ l) = list_all (λ y. nat_lt x y) l && list_rises l

-- each number less than all after it
abbrev Rises : List ℕ → Type 0
Rises [] = ⊤
Rises (x ∷ l) = AllByRecursion (λ y. x < y) l × Rises l

rises : (l : List ℕ) → list_rises l ≡ true → Rises l
rises [] h = tt
rises (x ∷ l) h = let parts = and_parts (list_all (λ y. nat_lt x y) l) (list_rises l) h in (behind l parts.0, rises l parts.1)
  where
    behind : (l : List ℕ) → list_all (λ y. nat_lt x y) l ≡ true → AllByRecursion (λ y. x < y) l
    behind [] h = tt
    behind (y ∷ l) h = let parts = and_parts (nat_lt x y) (list_all (λ y. nat_lt x y) l) h in (grind (arith, nat_tests), behind l parts.1)

at_least : (x : ℕ) (l : List ℕ) (j : ℕ) → AllByRecursion (λ y. x < y) l → j < length l → x < slice_index l j
at_least x [] j all within = absurd (omega arith)
at_least x (y ∷ l) zero all within = all.0
at_least x (y ∷ l) (suc j) all within = at_least x l j all.1 (omega arith)

rising : (l : List ℕ) (i j : ℕ) → Rises l → i < j → j < length l → slice_index l i < slice_index l j
rising [] i j all before within = absurd (omega arith)
rising (x ∷ l) zero zero all before within = absurd (omega arith)
rising (x ∷ l) zero (suc j) all before within = at_least x l j all.0 (omega arith)
rising (x ∷ l) (suc i) zero all before within = absurd (omega arith)
rising (x ∷ l) (suc i) (suc j) all before within = rising l i j all.1 (omega arith) (omega arith)

-- the hexadecimal digits stand in the order of what they say
digits_rise : (i j : ℕ) → i < j → j < 16 → slice_index lower_digits i < slice_index lower_digits j
digits_rise i j before within = rising lower_digits i j (rises lower_digits refl) before within

abbrev pair : ℕ → List ℕ → List ℕ
pair o text = slice_index lower_digits (o / 16) ∷ slice_index lower_digits (o % 16) ∷ text

module _ (a b : ℕ) (x y : List ℕ) (fits : b < 256) (before : a < b) where
  pair_before : by_octets (pair a x) (pair b y) ≡ Less
  pair_before = by (cases_lt (a / 16) (b / 16))
    where
      by : (a / 16 < b / 16) ⊎ (b / 16 ≤ a / 16) → by_octets (pair a x) (pair b y) ≡ Less
      by (inl l) = rw (less (slice_index lower_digits (a / 16)) (slice_index lower_digits (b / 16)) (digits_rise (a / 16) (b / 16) l (omega arith))) refl
      by (inr h) =
          let high : a / 16 ≡ b / 16 = omega arith in
          let low : a % 16 < b % 16 = omega arith in
          rw (high, tied (slice_index lower_digits (b / 16)), less (slice_index lower_digits (a % 16)) (slice_index lower_digits (b % 16)) (digits_rise (a % 16) (b % 16) low (omega arith))) refl

  pair_after : by_octets (pair b y) (pair a x) ≡ Greater
  pair_after = by (cases_lt (a / 16) (b / 16))
    where
      by : (a / 16 < b / 16) ⊎ (b / 16 ≤ a / 16) → by_octets (pair b y) (pair a x) ≡ Greater
      by (inl l) = rw (greater (slice_index lower_digits (b / 16)) (slice_index lower_digits (a / 16)) (digits_rise (a / 16) (b / 16) l (omega arith))) refl
      by (inr h) =
          let high : a / 16 ≡ b / 16 = omega arith in
          let low : a % 16 < b % 16 = omega arith in
          rw (high, tied (slice_index lower_digits (b / 16)), greater (slice_index lower_digits (b % 16)) (slice_index lower_digits (a % 16)) (digits_rise (a % 16) (b % 16) low (omega arith))) refl

digest_order : (x y : List ℕ) → AllByRecursion (λ o. o < 256) x → AllByRecursion (λ o. o < 256) y → by_octets (encode_lower x) (encode_lower y) ≡ by_octets x y
unfolding encode_with
digest_order [] [] below also = refl
digest_order [] (b ∷ y) below also = refl
digest_order (a ∷ x) [] below also = refl
digest_order (a ∷ x) (b ∷ y) below also =
    elim (cases_lt a b) [
      | inl l ↦ rw (pair_before a b (encode_lower x) (encode_lower y) also.0 l, less a b l) refl
      | inr h ↦ elim (cases_lt b a) [
        | inl g ↦ rw (pair_after b a (encode_lower y) (encode_lower x) below.0 g, greater a b g) refl
        | inr k ↦
            let same : a ≡ b = omega arith in
            rw (same, tied b, tied (slice_index lower_digits (b / 16)), tied (slice_index lower_digits (b % 16))) (digest_order x y below.1 also.1)
      ]
    ]

-- ---- values of fields

-- the order of one more item before others
one_more : (x y : List ℕ) (fields : Fields) (v w : Values fields) → AllByRecursion IsVisible x → AllByRecursion IsVisible y → IsLast fields v → IsLast fields w
    → by_octets (items_text (plain x ∷ values_items fields v)) (items_text (plain y ∷ values_items fields w)) ≡ ordering_then (by_octets x y) (by_octets (items_text (values_items fields v)) (items_text (values_items fields w)))
one_more x y End v w seen also is is' = sym (then_nothing (by_octets x y))
one_more x y fields v w seen also is is' =
    let ours = values_items fields v in
    let theirs = values_items fields w in
    rw (sym (behind_item x ours (some_values fields v refl is)), sym (behind_item y theirs (some_values fields w refl is'))) (above_then 32 x y (items_text ours) (items_text theirs) seen also)

-- the orders of the texts of values in turn
abbrev pub in_turn : Ordering → (fields : Fields) → Values fields → Values fields → Ordering
in_turn so_far End v w = so_far
in_turn so_far (kind ▸ fields) v w = in_turn (ordering_then so_far (by_octets (value_text kind v.0) (value_text kind w.0))) fields v.1 w.1
in_turn so_far Strings v w = ordering_then so_far (by_octets (items_text (strings_items v)) (items_text (strings_items w)))
in_turn so_far Digest v w = ordering_then so_far (by_octets v w)

order_in_turn : (so_far : Ordering) (fields : Fields) (v w : Values fields) → IsLast fields v → IsLast fields w → ordering_then so_far (by_octets (items_text (values_items fields v)) (items_text (values_items fields w))) ≡ in_turn so_far fields v w
order_in_turn so_far End v w is is' = then_nothing so_far
order_in_turn so_far (kind ▸ fields) v w is is' =
    let first = by_octets (value_text kind v.0) (value_text kind w.0) in
    ap (ordering_then so_far) (one_more (value_text kind v.0) (value_text kind w.0) fields v.1 w.1 (value_visible kind v.0) (value_visible kind w.0) is is')
    ∙ then_assoc so_far first (by_octets (items_text (values_items fields v.1)) (items_text (values_items fields w.1)))
    ∙ order_in_turn (ordering_then so_far first) fields v.1 w.1 is is'
order_in_turn so_far Strings v w is is' = refl
order_in_turn so_far Digest v w is is' = ap (ordering_then so_far) (digest_order v w is.octets is'.octets)

-- the order of the texts of values is that of their fields in turn
pub values_order : (fields : Fields) (v w : Values fields) → IsLast fields v → IsLast fields w → in_turn Equal fields v w ≡ by_octets (items_text (values_items fields v)) (items_text (values_items fields w))
values_order fields v w is is' = sym (order_in_turn Equal fields v w is is')
