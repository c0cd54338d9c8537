-- CNAME records beside others in a row in record order: those that follow each other tell.
use Rattle.std.proofs.Common.{◌≡◌, ℕ, zero, suc, ◌+◌, ◌-◌, ◌<◌, ◌≤◌, List, [], ◌∷◌, length, get_or, Bool, true, false, cond, not, ◌&&◌, ◌||◌, ◌==◌, nat_lt, ◌⊎◌, inl, inr, refl, sym, ap, ◌∙◌, arith}
use Rattle.std.specs.declared.cmp.Ordering.{Ordering}
use Rattle.std.specs.declared.cmp.Ordering.TheVariants.{Less, Equal, Greater}
use Rattle.std.specs.Ordering.{ordering_index, is_eq}
use Rattle.std.specs.List.{filter, list_any}
use Rattle.std.specs.List.Sorted.{IsNonDecreasingBy}
use Rattle.std.proofs.lemmas.Bool.{and_parts, eqb-true}
use Rattle.std.proofs.lemmas.Bool.Decides.{nat_tests}
use Rattle.std.proofs.lemmas.List.{get_or_default}
use Rattle.std.proofs.lemmas.List.Folds.{list_any_at, list_any_none}
use Rattle.dns_names.specs.Order.{canonical_cmp, same_name}
use Rattle.dns_data.specs.declared.record.Record.{Record}
use Rattle.dns_data.specs.declared.record_type.RecordType.TheVariants.{Cname}
use Rattle.zone_core.specs.Sets.{key_of, rank_of, set_of, count, at_name, at, InOrder}
use Rattle.zone_core.specs.Zones.{beside, is_cname, is_of_two_cnames, is_cname_beside_other}
use Rattle.zone_core.specs.Views.{set_order, are_two_cnames, are_cname_and_other}
use Rattle.zone_core.proofs.SetLemmas.{by_cases, name_is, name_self}
use Rattle.zone_core.proofs.RowLemmas.{count_is}
use Rattle.zone_core.proofs.RangeLemmas.{by_owner, by_head, both_tie, filter_at, filter_none}

-- ---- how many records pass a test

abbrev one_if : Bool → ℕ
one_if true = 1
one_if false = 0

kept : (b : Bool) (x : Record) (xs : List Record) → length (cond b (x ∷ xs) xs) ≡ one_if b + length xs
kept true x xs = omega arith
kept false x xs = omega arith

more : (a b : Bool) → (b ≡ true → a ≡ true) → one_if b ≤ one_if a
more true true h = omega arith
more true false h = omega arith
more false true h = absurd (let c = h refl in cc)
more false false h = omega arith

module _ (p : Record → Bool) where
  one_passes : (xs : List Record) (i : ℕ) (d : Record) → i < length xs → p (get_or xs i d) ≡ true → 0 < length (filter p xs)
  one_passes [] i d below e = absurd (omega arith)
  one_passes (x ∷ xs) zero d below e = omega (arith, kept (p x) x (filter p xs), ap one_if e)
  one_passes (x ∷ xs) (suc i) d below e = omega (arith, kept (p x) x (filter p xs), one_passes xs i d (omega arith) e)

  two_pass : (xs : List Record) (i j : ℕ) (d : Record) → i < j → j < length xs → p (get_or xs i d) ≡ true → p (get_or xs j d) ≡ true → 1 < length (filter p xs)
  two_pass [] i j d up below e f = absurd (omega arith)
  two_pass (x ∷ xs) i zero d up below e f = absurd (omega arith)
  two_pass (x ∷ xs) zero (suc j) d up below e f = omega (arith, kept (p x) x (filter p xs), ap one_if e, one_passes xs j d (omega arith) f)
  two_pass (x ∷ xs) (suc i) (suc j) d up below e f = omega (arith, kept (p x) x (filter p xs), two_pass xs i j d (omega arith) (omega arith) e f)

module _ (p q : Record → Bool) (wider : (r : Record) → q r ≡ true → p r ≡ true) where
  no_more : (xs : List Record) → length (filter q xs) ≤ length (filter p xs)
  no_more [] = omega arith
  no_more (x ∷ xs) = omega (arith, kept (p x) x (filter p xs), kept (q x) x (filter q xs), more (p x) (q x) (wider x), no_more xs)

  fewer : (xs : List Record) (i : ℕ) (d : Record) → i < length xs → p (get_or xs i d) ≡ true → q (get_or xs i d) ≡ false → length (filter q xs) < length (filter p xs)
  fewer [] i d below e f = absurd (omega arith)
  fewer (x ∷ xs) zero d below e f = omega (arith, kept (p x) x (filter p xs), kept (q x) x (filter q xs), ap one_if e, ap one_if f, no_more xs)
  fewer (x ∷ xs) (suc i) d below e f = omega (arith, kept (p x) x (filter p xs), kept (q x) x (filter q xs), more (p x) (q x) (wider x), fewer xs i d (omega arith) e f)

as_many : (p q : Record → Bool) (xs : List Record) → ((k : ℕ) (d : Record) → k < length xs → q (get_or xs k d) ≡ p (get_or xs k d)) → length (filter q xs) ≡ length (filter p xs)
as_many p q [] same = refl
as_many p q (x ∷ xs) same =
    kept (q x) x (filter q xs) ∙ (λ i. one_if (same 0 x (omega arith) i) + as_many p q xs (λ k d below. same (suc k) d (omega arith)) i) ∙ sym (kept (p x) x (filter p xs))

-- ---- at most one record ties, where no two that follow each other do

gone : (a b c : Ordering) → ordering_index a ≤ ordering_index b → ordering_index b ≤ ordering_index c → is_eq a ≡ true → (is_eq b ≡ true → ⊥) → is_eq c ≡ false
gone a b Less up also e not_b = refl
gone Less b Equal up also e not_b = absurd cc
gone Equal Less Equal up also e not_b = absurd (omega arith)
gone Equal Equal Equal up also e not_b = absurd (not_b refl)
gone Equal Greater Equal up also e not_b = absurd (omega arith)
gone Greater b Equal up also e not_b = absurd cc
gone a b Greater up also e not_b = refl

module _ (f : Record → Ordering) where
  one_at_most : (xs : List Record) → IsNonDecreasingBy (λ (r : Record). ordering_index (f r)) xs
      → ((i : ℕ) (d : Record) → suc i < length xs → is_eq (f (get_or xs i d)) ≡ true → is_eq (f (get_or xs (suc i) d)) ≡ true → ⊥)
      → length (filter (λ r. is_eq (f r)) xs) ≤ 1
  one_at_most [] rises apart = omega arith
  one_at_most (x ∷ xs) rises apart =
      by_cases (is_eq (f x)) (length (filter (λ r. is_eq (f r)) (x ∷ xs)) ≤ 1)
      (λ e.
      let none : filter (λ r. is_eq (f r)) xs ≡ [] =
      filter_none (λ r. is_eq (f r)) xs (λ k d below. gone (f x) (f (get_or xs 0 d)) (f (get_or xs k d)) (rises 0 1 d (omega arith) (omega arith)) (rises 1 (suc k) d (omega arith) (omega arith)) e (apart 0 d (omega arith) e)) in
      omega (arith, kept (is_eq (f x)) x (filter (λ r. is_eq (f r)) xs), ap one_if e, ap length none))
      (λ e. omega (
        arith,
        kept (is_eq (f x)) x (filter (λ r. is_eq (f r)) xs),
        ap one_if e,
        one_at_most xs (λ i j d up below. rises (suc i) (suc j) d (omega arith) (omega arith)) (λ i d below. apart (suc i) d (omega arith)),
      ))

-- ---- what stands between two records of one name is of that name

between : (a b c : Ordering) → ordering_index a ≤ ordering_index b → ordering_index b ≤ ordering_index c → is_eq a ≡ true → is_eq c ≡ true → is_eq b ≡ true
between a Equal c up also e f = refl
between Less Less c up also e f = absurd cc
between Equal Less c up also e f = absurd (omega arith)
between Greater Less c up also e f = absurd cc
between a Greater Less up also e f = absurd cc
between a Greater Equal up also e f = absurd (omega arith)
between a Greater Greater up also e f = absurd cc

one_less : (n : ℕ) → n ≡ suc n - 1
one_less n = omega arith

no_and : (b : Bool) → (b && false) ≡ false
no_and true = refl
no_and false = refl

few : (n : ℕ) → n ≤ 1 → nat_lt 1 n ≡ false
few n le = grind (arith, nat_tests)

many : (n : ℕ) → 1 < n → nat_lt 1 n ≡ true
many n less = grind (arith, nat_tests)

is_less : (m n : ℕ) → m < n → nat_lt m n ≡ true
is_less m n less = grind (arith, nat_tests)

not_less : (m n : ℕ) → m ≡ n → nat_lt m n ≡ false
not_less m n e = grind (arith, nat_tests)

-- one of two numbers is the other and some more
which : (j k : ℕ) → ((n : ℕ) × (k ≡ j + n)) ⊎ ((n : ℕ) × (j ≡ k + n))
which zero k = inl (k, omega arith)
which (suc j) zero = inr (suc j, omega arith)
which (suc j) (suc k) = elim (which j k) [ inl up ↦ inl (up.0, omega (arith, up.1)) | inr down ↦ inr (down.0, omega (arith, down.1)) ]

module _ (rs : List Record) (order : InOrder rs) where
  abbrev pub two_cnames : Bool
  two_cnames = list_any (λ r. is_of_two_cnames (set_of rs) (key_of r)) rs

  abbrev pub cname_and_other : Bool
  cname_and_other = list_any (λ r. is_cname_beside_other (set_of rs) (key_of r)) rs

  -- ---- two CNAME records

  pub two_cnames_found : (i : ℕ) (r s : Record) → 0 < i → i < length rs → r ≡ get_or rs (i - 1) r → s ≡ get_or rs i s → are_two_cnames r s ≡ true → two_cnames ≡ true
  two_cnames_found i r s some below here there e =
      let both = and_parts (is_cname (key_of r)) (beside (key_of r) (key_of s)) e in
      let parts = and_parts (same_name s.owner r.owner) (rank_of_s s == rank_of_s r) both.1 in
      let p : Record → Bool = λ x. at r.owner Cname (key_of x) in
      let first : p r ≡ true = rw (name_self r.owner) both.0 in
      let second : p s ≡ true = rw (parts.0, eqb-true (rank_of_s s) (rank_of_s r) parts.1) both.0 in
      let two = two_pass p rs (i - 1) i r (omega arith) below (ap p (sym here) ∙ first) (ap p (sym (there ∙ get_or_default rs i s r below)) ∙ second) in
      list_any_at (λ x. is_of_two_cnames (set_of rs) (key_of x)) rs (i - 1) r (omega arith)
      (ap (λ x. is_of_two_cnames (set_of rs) (key_of x)) (sym here)
      ∙ (λ j. both.0 j && nat_lt 1 (count_is (at r.owner Cname) rs order j)) ∙ many (length (filter p rs)) two)
    where
      rank_of_s : Record → ℕ
      rank_of_s x = (key_of x).1

  pub no_two_cnames : ((i : ℕ) → i < length rs → 0 < i → (d : Record) → are_two_cnames (get_or rs (i - 1) d) (get_or rs i d) ≡ false) → two_cnames ≡ false
  no_two_cnames none =
      list_any_none (λ x. is_of_two_cnames (set_of rs) (key_of x)) rs (λ k e below.
      let r = get_or rs k e in
      let f : Record → Ordering = λ x. set_order r.owner Cname x in
      let one : length (filter (λ x. is_eq (f x)) rs) ≤ 1 =
      one_at_most f rs (by_head rs order r.owner Cname) (λ i d also tie next.
      let a = get_or rs i d in
      let b = get_or rs (suc i) d in
      let here = and_parts (same_name a.owner r.owner) ((key_of a).1 == rank_of Cname) (sym (both_tie r.owner Cname a) ∙ tie) in
      let there = and_parts (same_name b.owner r.owner) ((key_of b).1 == rank_of Cname) (sym (both_tie r.owner Cname b) ∙ next) in
      let two : are_two_cnames a b ≡ true = both_two a b here.1 there.1 (name_is a.owner r.owner here.0) (name_is b.owner r.owner there.0) in
      let alone : are_two_cnames a b ≡ false = ap (λ m. are_two_cnames (get_or rs m d) b) (one_less i) ∙ none (suc i) also (omega arith) d in
      let c : true ≡ false = sym two ∙ alone in
      absurd cc) in
      ap (λ b. is_cname (key_of r) && b)
      (ap (nat_lt 1) (count_is (at r.owner Cname) rs order ∙ ap length (sym (filter_at r.owner Cname rs))) ∙ few (length (filter (λ x. is_eq (f x)) rs)) one)
      ∙ no_and (is_cname (key_of r)))
    where
      both_two : (a b : Record) → is_cname (key_of a) ≡ true → is_cname (key_of b) ≡ true → {n : List (List ℕ)} → a.owner ≡ n → b.owner ≡ n → are_two_cnames a b ≡ true
      both_two a b first second here there =
          let rank : (key_of b).1 ≡ (key_of a).1 = eqb-true (key_of b).1 (rank_of Cname) second ∙ sym (eqb-true (key_of a).1 (rank_of Cname) first) in
          rw (first, rank, there ∙ sym here) (both_true (name_self a.owner) (self (key_of a).1))
        where
          self : (n : ℕ) → (n == n) ≡ true
          self n = grind (arith, nat_tests)

          both_true : {a b : Bool} → a ≡ true → b ≡ true → (a && b) ≡ true
          both_true e f = rw (e, f) refl

  -- ---- a CNAME and another record

  cname_and_other_at : (i j : ℕ) (r s : Record) → i < length rs → j < length rs → r ≡ get_or rs i r → s ≡ get_or rs j s → is_cname (key_of r) ≡ true → is_cname (key_of s) ≡ false → s.owner ≡ r.owner → cname_and_other ≡ true
  cname_and_other_at i j r s below also here there first second name =
      let p : Record → Bool = λ x. at_name r.owner (key_of x) in
      let q : Record → Bool = λ x. at r.owner Cname (key_of x) in
      let less = fewer p q (λ x e. (and_parts (p x) (is_cname (key_of x)) e).0) rs j s also
      (ap p (sym there) ∙ ap (λ n. same_name n r.owner) name ∙ name_self r.owner)
      (ap q (sym there) ∙ ap (λ b. p s && b) second ∙ no_and (p s)) in
      list_any_at (λ x. is_cname_beside_other (set_of rs) (key_of x)) rs i r below
      (ap (λ x. is_cname_beside_other (set_of rs) (key_of x)) (sym here)
      ∙ (λ k. first k && nat_lt (count_is (at r.owner Cname) rs order k) (count_is (at_name r.owner) rs order k)) ∙ is_less (length (filter q rs)) (length (filter p rs)) less)

  pub cname_and_other_found : (i : ℕ) (r s : Record) → 0 < i → i < length rs → r ≡ get_or rs (i - 1) r → s ≡ get_or rs i s → are_cname_and_other r s ≡ true → cname_and_other ≡ true
  cname_and_other_found i r s some below here there e =
      let a = is_cname (key_of r) in
      let b = is_cname (key_of s) in
      let both = and_parts ((a && not b) || (b && not a)) (same_name s.owner r.owner) e in
      let name = name_is s.owner r.owner both.1 in
      by_cases a (cname_and_other ≡ true)
      (λ t. cname_and_other_at (i - 1) i r s (omega arith) below here there t (other_false a b both.0 t) name)
      (λ f. cname_and_other_at i (i - 1) s r below (omega arith) there here (other_true a b both.0 f) f (sym name))
    where
      other_false : (a b : Bool) → ((a && not b) || (b && not a)) ≡ true → a ≡ true → b ≡ false
      other_false true true e t = absurd cc
      other_false true false e t = refl
      other_false false b e t = absurd cc

      other_true : (a b : Bool) → ((a && not b) || (b && not a)) ≡ true → a ≡ false → b ≡ true
      other_true true b e t = absurd cc
      other_true false true e t = refl
      other_true false false e t = absurd cc

  module _ (none : (i : ℕ) → i < length rs → 0 < i → (d : Record) → are_cname_and_other (get_or rs (i - 1) d) (get_or rs i d) ≡ false) where
    steady : (name : List (List ℕ)) (n i : ℕ) (d : Record) → i + n < length rs → at_name name (key_of (get_or rs i d)) ≡ true → at_name name (key_of (get_or rs (i + n) d)) ≡ true
        → is_cname (key_of (get_or rs i d)) ≡ is_cname (key_of (get_or rs (i + n) d))
    steady name zero i d below e f = ap (λ m. is_cname (key_of (get_or rs m d))) (same i)
      where
        same : (m : ℕ) → m ≡ m + 0
        same m = omega arith
    steady name (suc n) i d below e f =
        let a = get_or rs (i + n) d in
        let b = get_or rs (i + suc n) d in
        let up = by_owner rs order name in
        let here : same_name a.owner name ≡ true =
        between (canonical_cmp (get_or rs i d).owner name) (canonical_cmp a.owner name) (canonical_cmp b.owner name) (up i (i + n) d (omega arith) (omega arith)) (up (i + n) (i + suc n) d (omega arith) below) e f in
        let apart : are_cname_and_other a b ≡ false = ap (λ m. are_cname_and_other (get_or rs m d) b) (before i n) ∙ none (i + suc n) below (omega arith) d in
        steady name n i d (omega arith) e here ∙ equal (is_cname (key_of a)) (is_cname (key_of b)) (same_name b.owner a.owner) (ap (λ n. same_name b.owner n) (name_is a.owner name here) ∙ f) apart
      where
        before : (i n : ℕ) → i + n ≡ i + suc n - 1
        before i n = omega arith

        equal : (a b c : Bool) → c ≡ true → (((a && not b) || (b && not a)) && c) ≡ false → a ≡ b
        equal true true c t e = refl
        equal true false true t e = absurd cc
        equal true false false t e = absurd cc
        equal false true true t e = absurd cc
        equal false true false t e = absurd cc
        equal false false c t e = refl

    of_name : (j k : ℕ) (d : Record) → j < length rs → k < length rs → is_cname (key_of (get_or rs j d)) ≡ true → at_name (get_or rs j d).owner (key_of (get_or rs k d)) ≡ true → is_cname (key_of (get_or rs k d)) ≡ true
    of_name j k d below also t e =
        let name = (get_or rs j d).owner in
        elim (which j k) [
          | inl up ↦
              let is = steady name up.0 j d (omega (arith, up.1)) (name_self name) (ap (λ m. at_name name (key_of (get_or rs m d))) (sym up.1) ∙ e) in
              ap (λ m. is_cname (key_of (get_or rs m d))) up.1 ∙ sym is ∙ t
          | inr down ↦
              let is = steady name down.0 k d (omega (arith, down.1)) e (ap (λ m. at_name name (key_of (get_or rs m d))) (sym down.1) ∙ name_self name) in
              is ∙ ap (λ m. is_cname (key_of (get_or rs m d))) (sym down.1) ∙ t
        ]

    pub no_cname_and_other : cname_and_other ≡ false
    no_cname_and_other =
        list_any_none (λ x. is_cname_beside_other (set_of rs) (key_of x)) rs (λ j e below.
        let r = get_or rs j e in
        let p : Record → Bool = λ x. at_name r.owner (key_of x) in
        let q : Record → Bool = λ x. at r.owner Cname (key_of x) in
        by_cases (is_cname (key_of r)) (is_cname_beside_other (set_of rs) (key_of r) ≡ false)
        (λ t.
        let same : length (filter q rs) ≡ length (filter p rs) =
        as_many p q rs (λ k d also. by_cases (p (get_or rs k d)) (q (get_or rs k d) ≡ p (get_or rs k d))
        (λ h.
        let c : is_cname (key_of (get_or rs k d)) ≡ true =
        ap (λ x. is_cname (key_of x)) (get_or_default rs k d e also) ∙ of_name j k e below also t (ap p (get_or_default rs k e d also) ∙ h) in
        ap (λ b. p (get_or rs k d) && b) c ∙ ap (λ b. b && true) h ∙ sym h)
        (λ h. ap (λ b. b && is_cname (key_of (get_or rs k d))) h ∙ sym h)) in
        (λ k. t k && nat_lt (count_is (at r.owner Cname) rs order k) (count_is (at_name r.owner) rs order k)) ∙ not_less (length (filter q rs)) (length (filter p rs)) same)
        (λ f. ap (λ b. b && nat_lt (count (set_of rs) (at r.owner Cname)) (count (set_of rs) (at_name r.owner))) f))
