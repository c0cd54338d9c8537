-- Regions: the keys between two boundaries.
use Rattle.std.proofs.Common.{◌≡◌, ℕ, zero, suc, ◌+◌, ◌-◌, ◌<◌, ◌≤◌, ◌⊎◌, inl, inr, Bool, true, false, not, ◌&&◌, ◌||◌, ◌==◌, cond, ltb, List, [], ◌∷◌, ◌++◌, length, get_or, drop, refl, sym, ap, ◌∙◌, ⊎_elim, arith, count_by, append_assoc, append-nil, drop-cons}
use Rattle.std.proofs.lemmas.List.{drop_all}
use Rattle.std.specs.declared.cmp.Ordering.{Ordering}
use Rattle.std.specs.declared.cmp.Ordering.TheVariants.{Less, Equal, Greater}
use Rattle.std.specs.List.{AllByRecursion}
use Rattle.std.specs.List.Sorted.{IsSortedBy, IsPartitionedBy, IsPartitionPoint}
use Rattle.std.specs.Ordering.{nat_cmp, is_le, is_lt, ordering_reverse}
use Rattle.std.specs.BTreeMap.Comparable.{le_lt_trans}
use Rattle.std.specs.Cmp.Lexicographic.{slice_cmp, nat_list_cmp_total}
use Rattle.std.proofs.lemmas.Bool.{cases_Bool, false≢true, lt-ltb, le-ltb}
use Rattle.std.proofs.lemmas.Bool.Decides.{nat_tests}
use Rattle.std.proofs.lemmas.List.Sums.{sum_by-cons, count_by-le-length}
use Rattle.std.proofs.lemmas.List.Sorted.{searchable_from_sorted}
use Rattle.grant_policy.specs.declared.rule.Rule.{Rule}
use Rattle.grant_policy.specs.Boundaries.{boundaries, boundaries_of, is_reached, region_of, AreTogether}
use Rattle.grant_policy.proofs.IndexLemmas.{le_down}

-- ---- counting what passes a test

count_cons : {X : Type 0} (p : X → Bool) (x : X) (xs : List X) → count_by p (x ∷ xs) ≡ cond (p x) 1 0 + count_by p xs
count_cons p x xs = sum_by-cons (λ y. cond (p y) 1 0) x xs

count_yes : {X : Type 0} (p : X → Bool) (x : X) (xs : List X) → p x ≡ true → count_by p (x ∷ xs) ≡ 1 + count_by p xs
count_yes p x xs e = count_cons p x xs ∙ ap (λ (b : Bool). cond b 1 0 + count_by p xs) e

count_no : {X : Type 0} (p : X → Bool) (x : X) (xs : List X) → p x ≡ false → count_by p (x ∷ xs) ≡ count_by p xs
count_no p x xs e = count_cons p x xs ∙ ap (λ (b : Bool). cond b 1 0 + count_by p xs) e ∙ omega arith

count_none : {X : Type 0} (p : X → Bool) (xs : List X) → ((k : ℕ) (d : X) → k < length xs → p (get_or xs k d) ≡ false) → count_by p xs ≡ 0
count_none p [] none = refl
count_none p (x ∷ xs) none = count_no p x xs (none 0 x (omega arith)) ∙ count_none p xs (λ k d lt. none (suc k) d (omega arith))

-- what passes one test passes another
fewer : {X : Type 0} (p q : X → Bool) (through : (x : X) → p x ≡ true → q x ≡ true) (xs : List X) → count_by p xs ≤ count_by q xs
fewer p q through [] = omega arith
fewer p q through (x ∷ xs) =
    ⊎_elim
    (λ (yes' : p x ≡ true). omega (arith, count_yes p x xs yes', count_yes q x xs (through x yes'), fewer p q through xs))
    (λ (no' : p x ≡ false).
    ⊎_elim
    (λ (other : q x ≡ true). omega (arith, count_no p x xs no', count_yes q x xs other, fewer p q through xs))
    (λ (neither : q x ≡ false). omega (arith, count_no p x xs no', count_no q x xs neither, fewer p q through xs))
    (cases_Bool (q x)))
    (cases_Bool (p x))

-- and where as many do, the same ones do
as_many : {X : Type 0} (p q : X → Bool) (through : (x : X) → p x ≡ true → q x ≡ true) (xs : List X) → count_by p xs ≡ count_by q xs → AllByRecursion (λ x. p x ≡ q x) xs
as_many p q through [] same = tt
as_many p q through (x ∷ xs) same =
    ⊎_elim
    (λ (yes' : p x ≡ true). (yes' ∙ sym (through x yes'), as_many p q through xs (omega (arith, count_yes p x xs yes', count_yes q x xs (through x yes')))))
    (λ (no' : p x ≡ false).
    ⊎_elim
    (λ (other : q x ≡ true). absurd (omega (arith, count_no p x xs no', count_yes q x xs other, fewer p q through xs)))
    (λ (neither : q x ≡ false). (no' ∙ sym neither, as_many p q through xs (omega (arith, count_no p x xs no', count_no q x xs neither))))
    (cases_Bool (q x)))
    (cases_Bool (p x))

-- in a list of which a first part passes, that part is as long as what passes is many
passing_below : {X : Type 0} (p : X → Bool) (xs : List X) → IsPartitionedBy p xs → (k : ℕ) (d : X) → k < length xs → p (get_or xs k d) ≡ true → k < count_by p xs
passing_below p [] parted k d lt e = absurd (omega arith)
passing_below p (x ∷ xs) parted zero d lt e = omega (arith, count_yes p x xs e)
passing_below p (x ∷ xs) parted (suc k) d lt e =
    omega (arith, count_yes p x xs (parted 0 (suc k) d (omega arith) lt e), passing_below p xs (λ i j f le below t. parted (suc i) (suc j) f (omega arith) (omega arith) t) k d (omega arith) e)

failing_above : {X : Type 0} (p : X → Bool) (xs : List X) → IsPartitionedBy p xs → (k : ℕ) (d : X) → k < length xs → p (get_or xs k d) ≡ false → count_by p xs ≤ k
failing_above p [] parted k d lt e = absurd (omega arith)
failing_above p (x ∷ xs) parted zero d lt e =
    omega (
      arith,
      count_none p (x ∷ xs) (λ j f below.
          ⊎_elim
          (λ (yes' : p (get_or (x ∷ xs) j f) ≡ true). absurd (false≢true (sym e ∙ parted 0 j f (omega arith) below yes')))
          (λ (no' : p (get_or (x ∷ xs) j f) ≡ false). no')
          (cases_Bool (p (get_or (x ∷ xs) j f)))),
    )
failing_above p (x ∷ xs) parted (suc k) d lt e =
    let rest = failing_above p xs (λ i j f le below t. parted (suc i) (suc j) f (omega arith) (omega arith) t) k d (omega arith) e in
    ⊎_elim
    (λ (yes' : p x ≡ true). omega (arith, count_yes p x xs yes', rest))
    (λ (no' : p x ≡ false). omega (arith, count_no p x xs no', rest))
    (cases_Bool (p x))

point_is : {X : Type 0} (p : X → Bool) (xs : List X) (n : ℕ) → n ≤ length xs → IsPartitionPoint (λ x. p x ≡ true) (λ x. p x ≡ false) xs n → n ≡ count_by p xs
point_is p [] n le point = omega arith
point_is p (x ∷ xs) zero le point = sym (count_none p (x ∷ xs) (λ k d lt. point.1 k d (omega arith) lt))
point_is p (x ∷ xs) (suc n) le point =
    omega (arith, count_yes p x xs (point.0 0 x (omega arith) (omega arith)), point_is p xs n (omega arith) (λ k d a b. point.0 (suc k) d (omega arith) (omega arith), λ k d a b. point.1 (suc k) d (omega arith) (omega arith)))

-- ---- keys among boundaries

-- of two keys one is not before the other
either_first : (key other : List ℕ) → (is_reached other key ≡ true) ⊎ (is_reached key other ≡ true)
either_first key other = by_order (slice_cmp nat_cmp key other) (slice_cmp nat_cmp other key) (nat_list_cmp_total.antisymm key other)
  where
    by_order : (r s : Ordering) → r ≡ ordering_reverse s → (is_le r ≡ true) ⊎ (is_le s ≡ true)
    by_order Less s e = inl refl
    by_order Equal s e = inl refl
    by_order Greater Less e = inr refl
    by_order Greater Equal e = cc
    by_order Greater Greater e = cc

-- a boundary that a key has reached is reached by those after it
reached_on : (key other : List ℕ) → is_reached other key ≡ true → (b : List ℕ) → is_reached key b ≡ true → is_reached other b ≡ true
reached_on key other on b reached = by_order (slice_cmp nat_cmp key other) refl
  where
    by_order : (r : Ordering) → slice_cmp nat_cmp key other ≡ r → is_reached other b ≡ true
    by_order Less e = ap is_le (le_lt_trans nat_list_cmp_total b key other reached e)
    by_order Equal e =
        ap is_le (nat_list_cmp_total.antisymm b other ∙ ap ordering_reverse (sym (nat_list_cmp_total.congr key other b e)) ∙ sym (nat_list_cmp_total.antisymm b key)) ∙ reached
    by_order Greater e = absurd (false≢true (sym (ap is_le e) ∙ on))

-- keys that have reached as many boundaries are together
pub together : (bs : List (List ℕ)) (key other : List ℕ) → region_of bs key ≡ region_of bs other → AreTogether bs key other
together bs key other same =
    ⊎_elim
    (λ (on : is_reached other key ≡ true). as_many (is_reached key) (is_reached other) (reached_on key other on) bs same)
    (λ (back : is_reached key other ≡ true). flipped bs (as_many (is_reached other) (is_reached key) (reached_on other key back) bs (sym same)))
    (either_first key other)
  where
    flipped : (cs : List (List ℕ)) → AllByRecursion (λ b. is_reached other b ≡ is_reached key b) cs → AreTogether cs key other
    flipped [] all = tt
    flipped (c ∷ cs) all = (sym all.0, flipped cs all.1)

-- a sorted list of boundaries
module _ (bs : List (List ℕ)) (sorted : IsSortedBy (λ a b. is_lt (slice_cmp nat_cmp a b)) bs) (key : List ℕ) where
  pub reached_parted : IsPartitionedBy (is_reached key) bs
  reached_parted i j d le lt e = le_down _ _ (searchable_from_sorted nat_list_cmp_total (λ (b : List ℕ). b) bs key sorted i j d le lt) e

  pub reaches : (k : ℕ) (d : List ℕ) → k < length bs → is_reached key (get_or bs k d) ≡ ltb k (region_of bs key)
  reaches k d lt =
      ⊎_elim
      (λ (yes' : is_reached key (get_or bs k d) ≡ true). yes' ∙ sym (lt-ltb _ _ (passing_below (is_reached key) bs reached_parted k d lt yes')))
      (λ (no' : is_reached key (get_or bs k d) ≡ false). no' ∙ sym (le-ltb _ _ (failing_above (is_reached key) bs reached_parted k d lt no')))
      (cases_Bool (is_reached key (get_or bs k d)))

  pub reaches_none : (k : ℕ) → length bs ≤ k → false ≡ ltb k (region_of bs key)
  reaches_none k past = sym (le-ltb _ _ (omega (arith, count_by-le-length (is_reached key) bs)))

  pub region_is : (n : ℕ) → n ≤ length bs → IsPartitionPoint (λ b. is_reached key b ≡ true) (λ b. is_reached key b ≡ false) bs n → n ≡ region_of bs key
  region_is n le point = point_is (is_reached key) bs n le point

-- whether a region is that of a key, by the boundaries at its ends
pub at_ends : (region n : ℕ) → ((region == 0) || ltb (region - 1) n) && not (ltb region n) ≡ (n == region)
at_ends region n = grind (arith, nat_tests)

-- ---- gathering boundaries

-- those of one rule more
pub next_boundaries : (caller : List ℕ) (rules : List Rule) (i : ℕ) (rule : Rule) (all : List (List ℕ)) → i < length rules → rule ≡ get_or rules i rule
    → (all ++ boundaries_of caller rule) ++ boundaries caller (drop (i + 1) rules) ≡ all ++ boundaries caller (drop i rules)
next_boundaries caller rules i rule all lt is =
    append_assoc all (boundaries_of caller rule) (boundaries caller (drop (i + 1) rules))
    ∙ ap (λ (r : Rule). all ++ (boundaries_of caller r ++ boundaries caller (drop (i + 1) rules))) is
    ∙ ap (λ (rs : List Rule). all ++ boundaries caller rs) (sym (drop-cons rules i rule lt ∙ ap (λ (n : ℕ). get_or rules i rule ∷ drop n rules) (let e : suc i ≡ i + 1 = omega arith in e)))

-- at the end they are those of all rules
pub all_boundaries : (caller : List ℕ) (rules : List Rule) (i : ℕ) (all : List (List ℕ)) → length rules ≤ i → all ++ boundaries caller (drop i rules) ≡ boundaries caller rules → all ≡ boundaries caller rules
all_boundaries caller rules i all past whole = sym (append-nil all) ∙ ap (λ (rs : List Rule). all ++ boundaries caller rs) (sym (drop_all i rules past)) ∙ whole
