-- Places that are sorted by what stands there, and then by themselves: those where the same stands are in their own order.
use Rattle.std.proofs.Common.{◌≡◌, ◌≢◌, ℕ, zero, suc, ◌+◌, ◌<◌, ◌≤◌, List, [], ◌∷◌, get_or, refl, sym, ap, subst, ◌∙◌, arith, eqb, ltb, Bool, true, false, cond, ◌&&◌}
use native.Mathlib.Numerals.{unary_clauses, add-one}
use Rattle.std.specs.Cmp.{IsStrictWeakOrder}
use Rattle.std.specs.List.{AllByRecursion, filter, range_with_len, sum_by}
use Rattle.std.specs.List.Sorted.{IsPermutation, IsSortedBy}
use Rattle.std.proofs.lemmas.Bool.Decides.{nat_tests}
use Rattle.std.proofs.lemmas.List.Elements.{recursion_from_All, All-from_recursion}
use Rattle.std.proofs.lemmas.List.Sums.{sum_by-cons}
use Rattle.std.proofs.lemmas.List.Sorted.{sorted_far, sum_by-IsPermutation, All-permutation}

-- ---- numbers of which each is at most those after it

abbrev pub IsRising : List ℕ → Type 0
IsRising [] = Unit {0}
IsRising (x ∷ xs) = AllByRecursion (λ y. x ≤ y) xs × IsRising xs

-- how often a number is among others
abbrev pub times : ℕ → List ℕ → ℕ
times m [] = 0
times m (x ∷ xs) = cond (eqb x m) 1 0 + times m xs

itself : (x : ℕ) → eqb x x ≡ true
itself x = grind (arith, nat_tests)

another : (x m : ℕ) → m < x → eqb x m ≡ false
another x m less = grind (arith, nat_tests)

-- none of those above a number is that number
never : (m y : ℕ) (xs : List ℕ) → m < y → AllByRecursion (λ x. y ≤ x) xs → times m xs ≡ 0
never m y [] less all = refl
never m y (x ∷ xs) less all =
    let here = ap {B = ℕ} (λ b. cond b 1 0) (another x m (omega (arith, less, all.0))) in
    let rest = never m y xs less all.1 in
    omega (arith, here, rest)

once_more : (m : ℕ) (xs : List ℕ) → times m (m ∷ xs) ≡ 1 + times m xs
once_more m xs = rw (itself m) refl

-- the lesser of two prefixes is not among the others
absent : (x y : ℕ) (xs ys : List ℕ) → x < y → AllByRecursion (λ z. y ≤ z) ys → times x (x ∷ xs) ≢ times x (y ∷ ys)
absent x y xs ys less all e =
    let here = once_more x xs in
    let there : times x (y ∷ ys) ≡ 0 = never x y (y ∷ ys) less (omega arith, all) in
    omega (arith, here, there, e)

is_any : (x y : ℕ) (A : Type 0) → (x < y → A) → (x ≡ y → A) → (y < x → A) → A
is_any zero zero A less same more = same refl
is_any zero (suc y) A less same more = less (omega arith)
is_any (suc x) zero A less same more = more (omega arith)
is_any (suc x) (suc y) A less same more = is_any x y A (λ l. less (omega (arith, l))) (λ e. same (ap suc e)) (λ l. more (omega (arith, l)))

-- rising numbers of which each is as often in both are the same
pub same_rising : (xs ys : List ℕ) → IsRising xs → IsRising ys → ((m : ℕ) → times m xs ≡ times m ys) → xs ≡ ys
same_rising [] [] rise also same = refl
same_rising [] (y ∷ ys) rise also same = absurd (let e = same y in let more = once_more y ys in omega (arith, e, more))
same_rising (x ∷ xs) [] rise also same = absurd (let e = same x in let more = once_more x xs in omega (arith, e, more))
same_rising (x ∷ xs) (y ∷ ys) rise also same =
    is_any x y (x ∷ xs ≡ y ∷ ys)
    (λ less. absurd (absent x y xs ys less also.0 (same x)))
    (λ e. (λ j. e j ∷ same_rising xs ys rise.1 also.1 (λ m. let prefixes = ap {B = ℕ} (λ z. cond (eqb z m) 1 0) e in let all = same m in omega (arith, prefixes, all)) j))
    (λ more. absurd (absent y x ys xs more rise.0 (sym (same y))))

-- ---- those that a test passes

-- how often a number passes
passes : (t : ℕ → Bool) (m : ℕ) (xs : List ℕ) → times m (filter t xs) ≡ sum_by (λ x. cond (t x && eqb x m) 1 0) xs
passes t m [] = refl
passes t m (x ∷ xs) = by_test (t x) (passes t m xs) ∙ sym (sum_by-cons (λ y. cond (t y && eqb y m) 1 0) x xs)
  where
    by_test : (b : Bool) → times m (filter t xs) ≡ sum_by (λ y. cond (t y && eqb y m) 1 0) xs
        → times m (cond b (x ∷ filter t xs) (filter t xs)) ≡ cond (b && eqb x m) 1 0 + sum_by (λ y. cond (t y && eqb y m) 1 0) xs
    by_test true e = ap (λ n. cond (eqb x m) 1 0 + n) e
    by_test false e = omega (arith, e)

-- each is related to all after it
abbrev pub AreRelated : (ℕ → ℕ → Type 0) → List ℕ → Type 0
AreRelated R [] = Unit {0}
AreRelated R (x ∷ xs) = AllByRecursion (R x) xs × AreRelated R xs

module _ (lt : ℕ → ℕ → Bool) (weak : IsStrictWeakOrder lt) where
  -- what is sorted is so for each two
  pub related : (xs : List ℕ) → IsSortedBy lt xs → AreRelated (λ x y. lt y x ≡ false) xs
  related [] sorted = tt
  related (x ∷ xs) sorted = (
    recursion_from_All (λ y. lt y x ≡ false) xs (λ k d below. let far = sorted_far lt weak (x ∷ xs) sorted 0 (suc k) d (omega arith) (omega (arith, below)) in far),
    related xs (λ k d low up.
        let next = sorted (suc k) d (omega arith) (omega (arith, up)) in
        subst (λ i. lt (get_or xs i d) (get_or xs k d) ≡ false) (sym (add-one k)) (simp unary_clauses at next)),
  )

module _ (n : ℕ) (t : ℕ → Bool) (lt : ℕ → ℕ → Bool) (tied : (x y : ℕ) → x < n → y < n → t x ≡ true → t y ≡ true → lt y x ≡ false → x ≤ y) where
  kept : (x : ℕ) (xs : List ℕ) → x < n → t x ≡ true → AllByRecursion (λ y. y < n) xs → AllByRecursion (λ y. lt y x ≡ false) xs → AllByRecursion (λ y. x ≤ y) (filter t xs)
  kept x [] below is all these = tt
  kept x (y ∷ xs) below is all these = by_test (t y) (λ also. tied x y below all.0 is also these.0) (kept x xs below is all.1 these.1)
    where
      by_test : (b : Bool) → (b ≡ true → x ≤ y) → AllByRecursion (λ z. x ≤ z) (filter t xs) → AllByRecursion (λ z. x ≤ z) (cond b (y ∷ filter t xs) (filter t xs))
      by_test true le rest = (le refl, rest)
      by_test false le rest = rest

  pub rising : (xs : List ℕ) → AllByRecursion (λ y. y < n) xs → AreRelated (λ x y. lt y x ≡ false) xs → IsRising (filter t xs)
  rising [] all are = tt
  rising (x ∷ xs) all are = by_test (t x) (λ is. kept x xs all.0 is all.1 are.0) (rising xs all.1 are.1)
    where
      by_test : (b : Bool) → (b ≡ true → AllByRecursion (λ y. x ≤ y) (filter t xs)) → IsRising (filter t xs) → IsRising (cond b (x ∷ filter t xs) (filter t xs))
      by_test true first rest = (first refl, rest)
      by_test false first rest = rest

-- ---- all places, in their own order

not_below : (a b k : ℕ) → a ≤ b → AllByRecursion (λ y. ltb y a ≡ false) (range_with_len b k)
not_below a b zero le = tt
not_below a b (suc k) le = (grind (arith, nat_tests), not_below a (b + 1) k (omega (arith, le)))

in_order : (a k : ℕ) → AreRelated (λ x y. ltb y x ≡ false) (range_with_len a k)
in_order a zero = tt
in_order a (suc k) = (not_below a (a + 1) k (omega arith), in_order (a + 1) k)

all_below : (a k n : ℕ) → a + k ≤ n → AllByRecursion (λ y. y < n) (range_with_len a k)
all_below a zero n le = tt
all_below a (suc k) n le = (omega (arith, le), all_below (a + 1) k n (omega (arith, le)))

at_most : (x y : ℕ) → ltb y x ≡ false → x ≤ y
at_most x y e = grind (arith, nat_tests)

-- ---- places that are sorted

module _ (n : ℕ) (lt : ℕ → ℕ → Bool) (weak : IsStrictWeakOrder lt) (ps : List ℕ) (moved : IsPermutation (range_with_len 0 n) ps) (sorted : IsSortedBy lt ps) where
  pub all_within : AllByRecursion (λ p. p < n) ps
  all_within =
      recursion_from_All (λ p. p < n) ps (All-permutation (λ p. p < n) (range_with_len 0 n) ps moved (All-from_recursion (λ p. p < n) (range_with_len 0 n) (all_below 0 n n (omega arith))))

  -- those that a test passes, of which each two are in their own order, stand as among all places
  pub same_ties : (t : ℕ → Bool) → ((x y : ℕ) → x < n → y < n → t x ≡ true → t y ≡ true → lt y x ≡ false → x ≤ y) → filter t ps ≡ filter t (range_with_len 0 n)
  same_ties t tied =
      same_rising (filter t ps) (filter t (range_with_len 0 n))
      (rising n t lt tied ps all_within (related lt weak ps sorted))
      (rising n t (λ x y. ltb x y) (λ x y short also is too le. at_most x y le) (range_with_len 0 n) (all_below 0 n n (omega arith)) (in_order 0 n))
      (λ m. passes t m ps ∙ sum_by-IsPermutation (λ x. cond (t x && eqb x m) 1 0) (range_with_len 0 n) ps moved ∙ sym (passes t m (range_with_len 0 n)))
