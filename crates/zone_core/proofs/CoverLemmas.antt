-- Names in canonical order, none of which is within another: which of them a name is within.
use Rattle.std.proofs.Common.{◌≡◌, ℕ, zero, suc, ◌-◌, ◌<◌, ◌≤◌, List, [], ◌∷◌, length, get_or, Bool, true, false, cond, ◌||◌, Option, Some, None, is_some, refl, sym, ap, subst, ◌∙◌, arith, inl, inr}
use Rattle.std.specs.Ordering.{is_le}
use Rattle.std.specs.List.{All, find, list_any}
use Rattle.std.specs.List.Sorted.{IsPartitionPoint, IsPartitionedBy}
use Rattle.std.proofs.lemmas.Bool.{false_from_ne_true, cases_lt}
use Rattle.std.proofs.lemmas.List.{get_or_default}
use Rattle.dns_names.specs.Labels.{is_within}
use Rattle.dns_names.specs.Order.{canonical_cmp}
use Rattle.zone_core.proofs.WithinLemmas.{not_before, between}
use Rattle.zone_core.specs.Outermost.{AreApart}
use Rattle.zone_core.proofs.BelowLemmas.{Name, no_test, before_then, not_behind, is_behind}

-- ---- the first that passes

pub find_none : {X : Type 0} (p : X → Bool) (xs : List X) → ((k : ℕ) (d : X) → k < length xs → p (get_or xs k d) ≡ false) → find p xs ≡ None
find_none p [] fails = refl
find_none p (x ∷ xs) fails = rw (fails 0 x (omega arith)) (find_none p xs (λ k d below. fails (suc k) d (omega arith)))

pub find_some : {X : Type 0} (p : X → Bool) (xs : List X) (n : ℕ) (x : X) → n < length xs → x ≡ get_or xs n x → p x ≡ true
    → ((k : ℕ) (d : X) → k < n → p (get_or xs k d) ≡ false) → find p xs ≡ Some x
find_some p [] n x lt e passes fails = absurd (omega arith)
find_some p (y ∷ ys) zero x lt e passes fails = rw (ap p (sym e) ∙ passes) (ap Some (sym e))
find_some p (y ∷ ys) (suc n) x lt e passes fails =
    rw (fails 0 y (omega arith)) (find_some p ys n x (omega arith) e passes (λ k d below. fails (suc k) d (omega arith)))

pub found_any : {X : Type 0} (p : X → Bool) (xs : List X) → is_some (find p xs) ≡ list_any p xs
found_any p [] = refl
found_any {X} p (x ∷ xs) = by_test (p x) (found_any p xs)
  where
    by_test : (b : Bool) → is_some (find p xs) ≡ list_any p xs → is_some (cond b (Some x) (find p xs)) ≡ (b || list_any p xs)
    by_test true e = refl
    by_test false e = e

-- ---- names apart

module _ (names : List Name) (apart : AreApart names) where
  module _ (name : Name) where
    -- those at or before a name stand before the others
    pub parted : IsPartitionedBy (λ (cut : Name). is_le (canonical_cmp cut name)) names
    parted i j d up below le = (elim (cases_lt i j) [
      | inl before ↦ before_then (get_or names i d) (get_or names j d) name (apart i j d before below).0 le
      | inr after ↦ (let eq : i ≡ j = omega arith in subst (λ k. is_le (canonical_cmp (get_or names k d) name) ≡ true) (sym eq) le)
    ])

    module _ (n : ℕ) (short : n ≤ length names) (point : IsPartitionPoint (λ (cut : Name). is_le (canonical_cmp cut name) ≡ true) (λ (cut : Name). is_le (canonical_cmp cut name) ≡ false) names n) where
      -- a name is within none that is after it
      none_behind : (k : ℕ) (d : Name) → n ≤ k → k < length names → is_within name (get_or names k d) ≡ false
      none_behind k d up below = not_before (get_or names k d) name (is_behind (get_or names k d) name (point.1 k d up below))

      -- nor, of those before it, within one that is not the last
      none_earlier : (i j : ℕ) (d : Name) → i < j → j < n → is_within name (get_or names i d) ≡ false
      none_earlier i j d up below =
          false_from_ne_true (is_within name (get_or names i d)) (λ inside.
          let pair = apart i j d up (omega arith) in
          no_test (is_within (get_or names j d) (get_or names i d))
          (between (get_or names i d) (get_or names j d) name (not_behind (get_or names i d) (get_or names j d) pair.0) (point.0 j d (omega arith) below) inside) pair.1)

      pub none_over : (0 < n → (d : Name) → is_within name (get_or names (n - 1) d) ≡ false) → find (λ cut. is_within name cut) names ≡ None
      none_over last = find_none (λ cut. is_within name cut) names (λ k d below. (elim (cases_lt k n) [
        | inl before ↦ (elim (cases_lt k (n - 1)) [
          | inl earlier ↦ none_earlier k (n - 1) d earlier (omega arith)
          | inr late ↦ (let eq : k ≡ n - 1 = omega arith in rw eq (last (omega arith) d))
        ])
        | inr behind ↦ none_behind k d behind below
      ]))

      pub some_over : (cut : Name) → 0 < n → cut ≡ get_or names (n - 1) cut → is_within name cut ≡ true → find (λ cut. is_within name cut) names ≡ Some cut
      some_over cut some is inside = find_some (λ cut. is_within name cut) names (n - 1) cut (omega arith) is inside (λ k d up. none_earlier k (n - 1) d up (omega arith))

  -- where none is after a name, the last tells
  pub by_last : (name last : Name) → All (λ (cut : Name). is_le (canonical_cmp cut name) ≡ true) names → 0 < length names → last ≡ get_or names (length names - 1) last
      → is_within name last ≡ list_any (λ cut. is_within name cut) names
  by_last name last before some is = by_test (is_within name last) refl
    where
      point : IsPartitionPoint (λ (cut : Name). is_le (canonical_cmp cut name) ≡ true) (λ (cut : Name). is_le (canonical_cmp cut name) ≡ false) names (length names)
      point = (λ k d low up. before k d up, λ k d low up. absurd (omega arith))

      by_test : (b : Bool) → is_within name last ≡ b → is_within name last ≡ list_any (λ cut. is_within name cut) names
      by_test true e =
          let found = some_over name (length names) (omega arith) point last some is e in
          e ∙ sym (ap (λ (o : Option Name). is_some o) found) ∙ found_any (λ cut. is_within name cut) names
      by_test false e =
          let none = none_over name (length names) (omega arith) point (λ up d. ap (is_within name) (get_or_default names (length names - 1) d last (omega arith) ∙ sym is) ∙ e) in
          e ∙ sym (ap (λ (o : Option Name). is_some o) none) ∙ found_any (λ cut. is_within name cut) names
