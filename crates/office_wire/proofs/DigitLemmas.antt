-- Numbers in decimal digits.
use Rattle.std.proofs.Common.{◌≡◌, ℕ, zero, suc, ◌+◌, ◌-◌, ◌*◌, ◌≤◌, Bool, true, false, ◌&&◌, List, [], ◌∷◌, ◌++◌, length, take, drop, refl, sym, ap, ◌∙◌, arith, bytes_eq, eqb-true, eq-eqb, length-drop}
use Rattle.std.specs.Prelude.{◌==◌, nat_lt}
use Rattle.std.specs.List.{list_all}
use Rattle.std.specs.Char.{is_ascii_digit, digit_value}
use Rattle.std.specs.Int.{IsInRange}
use Rattle.std.specs.Str.Parse.{digits_value_after, digits_value}
use Rattle.std.proofs.lemmas.Str.{digit_value_digit}
use Rattle.std.proofs.lemmas.List.{take-append-drop}
use Rattle.std.proofs.lemmas.Slice.Eq.{bytes_eq-Decides}
use Rattle.dns_data.specs.Numbers.{is_number}

-- a number does not shrink by more digits
pub digits_grow : (n : ℕ) (ds : List ℕ) → n ≤ digits_value_after 10 n ds
digits_grow n [] = omega arith
digits_grow n (c ∷ cs) = by n (digit_value c) (digits_value_after 10 (n * 10 + digit_value c) cs) (digits_grow (n * 10 + digit_value c) cs)
  where
    by : (n x v : ℕ) → n * 10 + x ≤ v → n ≤ v
    by n x v h = omega arith

both : (a b : Bool) → (a && b) ≡ true → (a ≡ true) × (b ≡ true)
both true b e = (refl, e)
both false b e = absurd cc

and_true : (a b : Bool) → a ≡ true → b ≡ true → (a && b) ≡ true
and_true true b p q = q
and_true false b p q = absurd cc

in_range : (c : ℕ) → is_ascii_digit c ≡ true → IsInRange 48 57 c
in_range c e = grind arith

value_is : (c : ℕ) → is_ascii_digit c ≡ true → digit_value c + 48 ≡ c
value_is c e = digit_value_digit c (in_range c e)

-- digits of one length after two numbers are one number only where all is the same
same_digits : (m n : ℕ) (us vs : List ℕ) → length us ≡ length vs → list_all is_ascii_digit us ≡ true → list_all is_ascii_digit vs ≡ true
    → digits_value_after 10 m us ≡ digits_value_after 10 n vs → (m ≡ n) × (us ≡ vs)
same_digits m n [] [] len p q e = (e, refl)
same_digits m n [] (y ∷ vs) len p q e = absurd (omega arith)
same_digits m n (x ∷ us) [] len p q e = absurd (omega arith)
same_digits m n (x ∷ us) (y ∷ vs) len p q e =
    let hp = both (is_ascii_digit x) (list_all is_ascii_digit us) p in
    let hq = both (is_ascii_digit y) (list_all is_ascii_digit vs) q in
    let rest = same_digits (m * 10 + digit_value x) (n * 10 + digit_value y) us vs (omega arith) hp.1 hq.1 e in
    let digit = by m n x y (digit_value x) (digit_value y) (value_is x hp.0) (value_is y hq.0) (in_range x hp.0) (in_range y hq.0) rest.0 in
    (digit.0, λ i. digit.1 i ∷ rest.1 i)
  where
    by : (m n x y dx dy : ℕ) → dx + 48 ≡ x → dy + 48 ≡ y → IsInRange 48 57 x → IsInRange 48 57 y → m * 10 + dx ≡ n * 10 + dy → (m ≡ n) × (x ≡ y)
    by m n x y dx dy p q r s e = (omega arith, omega arith)

value_join : (n : ℕ) (us vs : List ℕ) → digits_value_after 10 n (us ++ vs) ≡ digits_value_after 10 (digits_value_after 10 n us) vs
value_join n [] vs = refl
value_join n (x ∷ us) vs = value_join (n * 10 + digit_value x) us vs

abbrev is_zero : ℕ → Bool
is_zero d = d == 48

zeros_value : (ds : List ℕ) → list_all is_zero ds ≡ true → digits_value_after 10 0 ds ≡ 0
zeros_value [] e = refl
zeros_value (x ∷ ds) e =
    let h = both (is_zero x) (list_all is_zero ds) e in
    let here : x ≡ 48 = eqb-true x 48 h.0 in
    ap (λ (y : ℕ). digits_value_after 10 (0 * 10 + digit_value y) ds) here ∙ zeros_value ds h.1

value_zeros : (ds : List ℕ) → list_all is_ascii_digit ds ≡ true → digits_value_after 10 0 ds ≡ 0 → list_all is_zero ds ≡ true
value_zeros [] p e = refl
value_zeros (x ∷ ds) p e =
    let h = both (is_ascii_digit x) (list_all is_ascii_digit ds) p in
    let grown = digits_grow (0 * 10 + digit_value x) ds in
    let none : digit_value x ≡ 0 = by (digit_value x) _ grown e in
    let here : x ≡ 48 = sym (value_is x h.0) ∙ ap (λ (n : ℕ). n + 48) none in
    and_true (is_zero x) (list_all is_zero ds) (eq-eqb x 48 here)
    (value_zeros ds h.1 (ap (λ (n : ℕ). digits_value_after 10 n ds) (zero_is (digit_value x) none) ∙ e))
  where
    by : (d v : ℕ) → 0 * 10 + d ≤ v → v ≡ 0 → d ≡ 0
    by d v p q = omega arith

    zero_is : (d : ℕ) → d ≡ 0 → 0 ≡ 0 * 10 + d
    zero_is d p = omega arith

all_front : (k : ℕ) (xs : List ℕ) → list_all is_ascii_digit xs ≡ true → list_all is_ascii_digit (take k xs) ≡ true
all_front zero xs e = refl
all_front (suc k) [] e = refl
all_front (suc k) (x ∷ xs) e = let h = both (is_ascii_digit x) (list_all is_ascii_digit xs) e in and_true (is_ascii_digit x) (list_all is_ascii_digit (take k xs)) h.0 (all_front k xs h.1)

all_back : (k : ℕ) (xs : List ℕ) → list_all is_ascii_digit xs ≡ true → list_all is_ascii_digit (drop k xs) ≡ true
all_back zero xs e = e
all_back (suc k) [] e = refl
all_back (suc k) (x ∷ xs) e = all_back k xs (both (is_ascii_digit x) (list_all is_ascii_digit xs) e).1

both_ways : (a b : Bool) → (a ≡ true → b ≡ true) → (b ≡ true → a ≡ true) → a ≡ b
both_ways true b f g = sym (f refl)
both_ways false true f g = g refl
both_ways false false f g = refl

-- two rows of digits are one number exactly where the longer has only zeros before the other
pub padded : (short long : List ℕ) (k : ℕ) → list_all is_ascii_digit short ≡ true → list_all is_ascii_digit long ≡ true → k + length short ≡ length long
    → (list_all (λ d. d == 48) (take k long) && bytes_eq (drop k long) short) ≡ (digits_value 10 long == digits_value 10 short)
padded short long k p q len =
    let front = take k long in
    let back = drop k long in
    let back_len : length back ≡ length short = simp length-drop (omega arith) in
    let split : digits_value 10 long ≡ digits_value_after 10 (digits_value 10 front) back = ap (digits_value 10) (sym (take-append-drop k long)) ∙ value_join 0 front back in
    both_ways (list_all is_zero front && bytes_eq back short) (digits_value 10 long == digits_value 10 short)
    (λ e.
    let h = both (list_all is_zero front) (bytes_eq back short) e in
    let same : back ≡ short = (bytes_eq-Decides back short).0 h.1 in
    eq-eqb (digits_value 10 long) (digits_value 10 short)
    (split ∙ (λ i. digits_value_after 10 (zeros_value front h.0 i) (same i))))
    (λ e.
    let value : digits_value 10 long ≡ digits_value 10 short = eqb-true (digits_value 10 long) (digits_value 10 short) e in
    let same = same_digits (digits_value 10 front) 0 back short back_len (all_back k long q) p (sym split ∙ value) in
    and_true (list_all is_zero front) (bytes_eq back short) (value_zeros front (all_front k long q) same.0) ((bytes_eq-Decides back short).1 same.1))

is_digits : (text : List ℕ) → is_number text ≡ true → list_all is_ascii_digit text ≡ true
is_digits text e = (both (nat_lt 0 (length text)) (list_all is_ascii_digit text) e).1

and_from : (a b v : Bool) → (a && b) ≡ v → a ≡ true → b ≡ v
and_from true b v e p = e
and_from false b v e p = absurd cc

none_from : (a b v : Bool) → (a && b) ≡ v → a ≡ false → a ≡ v
none_from true b v e p = absurd cc
none_from false b v e p = e

module _ (short long : List ℕ) (p : is_number short ≡ true) (q : is_number long ≡ true) (order : length short ≤ length long) where
  both_padded : (list_all (λ d. d == 48) (take (length long - length short) long) && bytes_eq (drop (length long - length short) long) short) ≡ (digits_value 10 long == digits_value 10 short)
  both_padded = padded short long (length long - length short) (is_digits short p) (is_digits long q) (omega (arith, order))

  pub padded_true : list_all (λ d. d == 48) (take (length long - length short) long) ≡ true → bytes_eq (drop (length long - length short) long) short ≡ (digits_value 10 long == digits_value 10 short)
  padded_true e =
      and_from (list_all (λ d. d == 48) (take (length long - length short) long)) (bytes_eq (drop (length long - length short) long) short) (digits_value 10 long == digits_value 10 short) both_padded e

  pub padded_false : list_all (λ d. d == 48) (take (length long - length short) long) ≡ false → list_all (λ d. d == 48) (take (length long - length short) long) ≡ (digits_value 10 long == digits_value 10 short)
  padded_false e =
      none_from (list_all (λ d. d == 48) (take (length long - length short) long)) (bytes_eq (drop (length long - length short) long) short) (digits_value 10 long == digits_value 10 short) both_padded e
