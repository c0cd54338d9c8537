-- Labels of one octet and of two, and that there are more of these than rules.
use Rattle.std.proofs.Common.{◌≡◌, ◌≢◌, ℕ, zero, suc, ◌+◌, ◌-◌, ◌*◌, ◌/◌, ◌%◌, ◌<◌, ◌≤◌, inl, inr, Bool, true, false, cond, ltb, eqb, List, [], ◌∷◌, length, get_or, Result, Ok, Err, refl, sym, ap, ◌∙◌, subst, ⊎_elim, arith, count_by}
use Rattle.std.specs.Prelude.{is_ok}
use Rattle.std.specs.List.{Contains}
use Rattle.std.specs.Char.{to_ascii_lowercase}
use Rattle.std.proofs.lemmas.Bool.{cases_lt, false≢true, lt-ltb, le-ltb, eq-eqb}
use Rattle.std.proofs.lemmas.Bool.Decides.{nat_tests}
use Rattle.std.proofs.lemmas.List.Sums.{sum_by-cons, count_by-le-length}
use Rattle.std.proofs.lemmas.Str.Ascii.{lowercase_is}
use Rattle.dns_names.specs.declared.name_fault.NameFault.{NameFault}
use Rattle.dns_names.specs.declared.name_fault.NameFault.TheVariants.{NameTooLong}
use Rattle.dns_names.specs.Labels.{IsFolded, IsName, wire_len}
use Rattle.dns_names.specs.Reading.{relative_name, fitting, symbols_within}
use Rattle.dns_names.specs.Spelling.{SpellsFolded, SpellsRelative, three_digits}
use Rattle.policy_tools.specs.FreeNames.{letter_of, pair_of}

-- ---- room

two_reads : (top : List (List ℕ)) → relative_name top (97 ∷ 97 ∷ []) ≡ fitting ((97 ∷ 97 ∷ []) ∷ top)
unfolding symbols_within
two_reads top = refl

one_reads : (top : List (List ℕ)) → relative_name top (97 ∷ []) ≡ fitting ((97 ∷ []) ∷ top)
unfolding symbols_within
one_reads top = refl

abbrev read_of : ℕ → List (List ℕ) → Result (List (List ℕ)) NameFault
read_of n name = cond (ltb 255 n) (Err NameTooLong) (Ok name)

fits_room : (n : ℕ) (name : List (List ℕ)) → is_ok (read_of n name) ≡ true → n ≤ 255
fits_room n name e =
    ⊎_elim
    (λ (long : 255 < n). absurd (false≢true (sym (ap (λ (b : Bool). is_ok (cond b (Err NameTooLong) (Ok name))) (lt-ltb 255 n long)) ∙ e)))
    (λ (short : n ≤ 255). short)
    (cases_lt 255 n)

full_room : (n : ℕ) (name : List (List ℕ)) → is_ok (read_of n name) ≡ false → 255 < n
full_room n name e =
    ⊎_elim
    (λ (long : 255 < n). long)
    (λ (short : n ≤ 255). absurd (false≢true (sym e ∙ ap (λ (b : Bool). is_ok (cond b (Err NameTooLong) (Ok name))) (le-ltb 255 n short))))
    (cases_lt 255 n)

pub two_fit : (top : List (List ℕ)) → is_ok (relative_name top (97 ∷ 97 ∷ [])) ≡ true → wire_len top ≤ 252
two_fit top e = omega (arith, fits_room (wire_len ((97 ∷ 97 ∷ []) ∷ top)) ((97 ∷ 97 ∷ []) ∷ top) (sym (ap is_ok (two_reads top)) ∙ e))

pub two_full : (top : List (List ℕ)) → is_ok (relative_name top (97 ∷ 97 ∷ [])) ≡ false → 252 < wire_len top
two_full top e = omega (arith, full_room (wire_len ((97 ∷ 97 ∷ []) ∷ top)) ((97 ∷ 97 ∷ []) ∷ top) (sym (ap is_ok (two_reads top)) ∙ e))

pub one_fit : (top : List (List ℕ)) → is_ok (relative_name top (97 ∷ [])) ≡ true → wire_len top ≤ 253
one_fit top e = omega (arith, fits_room (wire_len ((97 ∷ []) ∷ top)) ((97 ∷ []) ∷ top) (sym (ap is_ok (one_reads top)) ∙ e))

pub one_full : (top : List (List ℕ)) → is_ok (relative_name top (97 ∷ [])) ≡ false → 253 < wire_len top
one_full top e = omega (arith, full_room (wire_len ((97 ∷ []) ∷ top)) ((97 ∷ []) ∷ top) (sym (ap is_ok (one_reads top)) ∙ e))

-- no label fits
pub no_label : (top : List (List ℕ)) → 253 < wire_len top → (label : List ℕ) → IsName (label ∷ top) → ⊥
no_label top full label is = omega (arith, is.short, is.labels.0.not_empty)

-- ---- letters

pub record IsLetter (x : ℕ) : Type 0 where
  pub above : 48 ≤ x
  pub below : x < 123
  pub other : x ≢ 92
  pub folded : to_ascii_lowercase x ≡ x

abbrev beyond : ℕ → ℕ
beyond n = cond (ltb n 43) (22 + n) (50 + n)

letter_low : (n : ℕ) → n < 26 → letter_of n ≡ 97 + n
letter_low n h = ap (λ (b : Bool). cond b (97 + n) (beyond n)) (lt-ltb n 26 h)

letter_mid : (n : ℕ) → 26 ≤ n → n < 43 → letter_of n ≡ 22 + n
letter_mid n h k = ap (λ (b : Bool). cond b (97 + n) (beyond n)) (le-ltb n 26 h) ∙ ap (λ (b : Bool). cond b (22 + n) (50 + n)) (lt-ltb n 43 k)

letter_high : (n : ℕ) → 43 ≤ n → letter_of n ≡ 50 + n
letter_high n h = ap (λ (b : Bool). cond b (97 + n) (beyond n)) (le-ltb n 26 (omega arith)) ∙ ap (λ (b : Bool). cond b (22 + n) (50 + n)) (le-ltb n 43 h)

letter_at : (x : ℕ) → (93 ≤ x) × (x < 123) → IsLetter x
letter_at x h = record { above = omega arith; below = h.1; other = λ e. omega arith; folded = (lowercase_is x).2 (omega arith) }

digit_at : (x : ℕ) → (48 ≤ x) × (x < 65) → IsLetter x
digit_at x h = record { above = h.0; below = omega arith; other = λ e. omega arith; folded = (lowercase_is x).1 (omega arith) }

-- what is true of each letter, in three parts
by_thirds : (P : ℕ → Type 0) (n : ℕ) → (n < 26 → P (97 + n)) → (26 ≤ n → n < 43 → P (22 + n)) → (43 ≤ n → P (50 + n)) → P (letter_of n)
by_thirds P n low mid high =
    ⊎_elim
    (λ (h : n < 26). subst P (sym (letter_low n h)) (low h))
    (λ (h : 26 ≤ n). ⊎_elim
    (λ (k : n < 43). subst P (sym (letter_mid n h k)) (mid h k))
    (λ (k : 43 ≤ n). subst P (sym (letter_high n k)) (high k))
    (cases_lt n 43))
    (cases_lt n 26)

pub is_letter : (n : ℕ) → n < 47 → IsLetter (letter_of n)
is_letter n h =
    by_thirds IsLetter n (λ low. letter_at (97 + n) (omega arith, omega arith)) (λ from to. digit_at (22 + n) (omega arith, omega arith))
    (λ high. letter_at (50 + n) (omega arith, omega arith))

pub quotient : (n : ℕ) → n < 2209 → n / 47 < 47
quotient n h = omega arith

pub remainder : (n : ℕ) → n % 47 < 47
remainder n = omega arith

folded_letter : (x : ℕ) → IsLetter x → IsFolded x
folded_letter x l = record { below = omega (arith, l.below); folded = l.folded }

pub pair_name : (top : List (List ℕ)) (n : ℕ) → IsName top → wire_len top ≤ 252 → n < 2209 → IsName (pair_of n ∷ top)
pair_name top n is room h = record {
  labels = (
    record {
      octets = (folded_letter (letter_of (n / 47)) (is_letter (n / 47) (quotient n h)), (folded_letter (letter_of (n % 47)) (is_letter (n % 47) (remainder n)), tt));
      not_empty = omega arith;
      short = omega arith;
    },
    is.labels,
  );
  short = omega arith;
}

spells_letter : (x : ℕ) → IsLetter x → SpellsFolded x (x ∷ [])
spells_letter x l = (x, omega (arith, l.below), l.folded, inl (λ e. omega (arith, l.above), l.other, refl))

pub pair_spells : (top : List (List ℕ)) (n : ℕ) → n < 2209 → SpellsRelative top (pair_of n ∷ top) (pair_of n)
pair_spells top n h =
    let a = letter_of (n / 47) in
    let b = letter_of (n % 47) in
    let first = spells_letter a (is_letter (n / 47) (quotient n h)) in
    let second = spells_letter b (is_letter (n % 47) (remainder n)) in
    inr (inr (pair_of n ∷ [], λ e. two_not_one a b e, λ e. cc, refl, (pair_of n, [], refl, (a ∷ [], b ∷ [], refl, first, (b ∷ [], [], refl, second, refl)), refl)))
  where
    two_not_one : (a b : ℕ) → a ∷ b ∷ [] ≡ 64 ∷ [] → ⊥
    two_not_one a b e = cc

-- ---- octets

pub octet_name : (top : List (List ℕ)) (o : ℕ) → IsName top → wire_len top ≤ 253 → o < 256 → to_ascii_lowercase o ≡ o → IsName ((o ∷ []) ∷ top)
octet_name top o is room below folded = record {
  labels = (record { octets = (record { below = below; folded = folded }, tt); not_empty = omega arith; short = omega arith }, is.labels);
  short = omega arith;
}

pub octet_spells : (top : List (List ℕ)) (o : ℕ) → o < 256 → to_ascii_lowercase o ≡ o → SpellsRelative top ((o ∷ []) ∷ top) (92 ∷ three_digits o)
octet_spells top o below folded =
    inr (inr ((o ∷ []) ∷ [], λ e. more (48 + o / 100) (48 + o / 10 % 10) (48 + o % 10) e, λ e. cc, refl, (92 ∷ three_digits o, [], refl, (92 ∷ three_digits o, [], refl, (o, below, folded, inr (inr (below, refl))), refl), refl)))
  where
    more : (a b c : ℕ) → 92 ∷ a ∷ b ∷ c ∷ [] ≡ 64 ∷ [] → ⊥
    more a b c e = cc

-- a label that fits where only one octet does
pub only_octet : (top : List (List ℕ)) → 252 < wire_len top → (label : List ℕ) → IsName (label ∷ top) → (o : ℕ) × (label ≡ o ∷ []) × IsFolded o
only_octet top full [] is = absurd (omega (arith, is.labels.0.not_empty))
only_octet top full (o ∷ []) is = (o, refl, is.labels.0.octets.0)
only_octet top full (o ∷ p ∷ label) is = absurd (omega (arith, is.short))

-- ---- more than there are

count_cons : {X : Type 0} (p : X → Bool) (x : X) (xs : List X) → count_by p (x ∷ xs) ≡ cond (p x) 1 0 + count_by p xs
count_cons {X} p x xs = sum_by-cons (λ (y : X). cond (p y) 1 0) x xs

count_at : {X : Type 0} (p : X → Bool) (xs : List X) (k : ℕ) (x : X) → k < length xs → get_or xs k x ≡ x → p x ≡ true → 1 ≤ count_by p xs
count_at p [] k x lt is yes' = absurd (omega arith)
count_at {X} p (y ∷ ys) zero x lt is yes' =
    let one : ◌≡◌ {A = ℕ} (cond (p y) 1 0) 1 = ap (λ (b : Bool). cond b 1 0) (subst (λ (z : X). p z ≡ true) (sym is) yes') in
    omega (arith, one, count_cons p y ys)
count_at p (y ∷ ys) (suc k) x lt is yes' = omega (arith, count_cons p y ys, count_at p ys k x (omega arith) is yes')

one_split : (v n : ℕ) → cond (ltb v (suc n)) 1 0 ≡ cond (ltb v n) 1 0 + cond (eqb v n) 1 0
one_split v n = grind (arith, nat_tests)

count_split : {X : Type 0} (f : X → ℕ) (n : ℕ) (xs : List X) → count_by (λ x. ltb (f x) (suc n)) xs ≡ count_by (λ x. ltb (f x) n) xs + count_by (λ x. eqb (f x) n) xs
count_split f n [] = refl
count_split {X} f n (x ∷ xs) =
    omega (arith, count_cons (λ (y : X). ltb (f y) (suc n)) x xs, count_cons (λ (y : X). ltb (f y) n) x xs, count_cons (λ (y : X). eqb (f y) n) x xs, one_split (f x) n, count_split f n xs)

-- where each number below n is that of an element, there are n of them
abbrev pub HasNumber : {X : Type 0} → (X → ℕ) → List X → ℕ → Type 0
HasNumber {X} f xs k = (x : X) × Contains xs x × (f x ≡ k)

count_to : {X : Type 0} (f : X → ℕ) (xs : List X) (n : ℕ) → ((k : ℕ) → k < n → HasNumber f xs k) → n ≤ count_by (λ x. ltb (f x) n) xs
count_to f xs zero has = omega arith
count_to {X} f xs (suc n) has =
    let here = has n (omega arith) in
    let one = count_at (λ (y : X). eqb (f y) n) xs here.1.0 here.0 here.1.1 here.1.2 (eq-eqb (f here.0) n here.2) in
    omega (arith, count_split f n xs, one, count_to f xs n (λ k lt. has k (omega arith)))

pub at_least : {X : Type 0} (f : X → ℕ) (xs : List X) (n : ℕ) → ((k : ℕ) → k < n → HasNumber f xs k) → n ≤ length xs
at_least {X} f xs n has = omega (arith, count_to f xs n has, count_by-le-length (λ (y : X). ltb (f y) n) xs)

-- ---- the number of a pair

abbrev pub rank : ℕ → ℕ
rank x = cond (ltb x 65) (x - 22) (cond (ltb x 97) (x - 50) (x - 97))

pub rank-letter_of : (n : ℕ) → n < 47 → rank (letter_of n) ≡ n
rank-letter_of n h =
    by_thirds (λ (x : ℕ). rank x ≡ n) n
    (λ low. ap (λ (b : Bool). cond b (97 + n - 22) (cond (ltb (97 + n) 97) (97 + n - 50) (97 + n - 97))) (le-ltb (97 + n) 65 (omega arith))
    ∙ ap (λ (b : Bool). cond b (97 + n - 50) (97 + n - 97)) (le-ltb (97 + n) 97 (omega arith)) ∙ omega arith)
    (λ from to. ap (λ (b : Bool). cond b (22 + n - 22) (cond (ltb (22 + n) 97) (22 + n - 50) (22 + n - 97))) (lt-ltb (22 + n) 65 (omega arith)) ∙ omega arith)
    (λ high. ap (λ (b : Bool). cond b (50 + n - 22) (cond (ltb (50 + n) 97) (50 + n - 50) (50 + n - 97))) (le-ltb (50 + n) 65 (omega arith))
    ∙ ap (λ (b : Bool). cond b (50 + n - 50) (50 + n - 97)) (lt-ltb (50 + n) 97 (omega arith)) ∙ omega arith)

abbrev pub number_of : List ℕ → ℕ
number_of [] = 0
number_of (a ∷ []) = 0
number_of (a ∷ b ∷ rest) = rank a * 47 + rank b

pub number_of-pair_of : (n : ℕ) → n < 2209 → number_of (pair_of n) ≡ n
number_of-pair_of n h = omega (arith, rank-letter_of (n / 47) (quotient n h), rank-letter_of (n % 47) (remainder n))

abbrev pub first_number : List (List ℕ) → ℕ
first_number [] = 0
first_number (label ∷ labels) = number_of label

-- ---- what was read

abbrev ok : List (List ℕ) → Result (List (List ℕ)) NameFault
ok name = Ok name

pub same_read : (name read : List (List ℕ)) → ok name ≡ Ok read → read ≡ name
same_read name read e = cc

pub read_ok : (read : Result (List (List ℕ)) NameFault) (name : List (List ℕ)) → read ≡ Ok name → true ≡ is_ok read
read_ok read name e = sym (ap is_ok e)

pub read_err : (read : Result (List (List ℕ)) NameFault) (fault : NameFault) → read ≡ Err fault → false ≡ is_ok read
read_err read fault e = sym (ap is_ok e)
