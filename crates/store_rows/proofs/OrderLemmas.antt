-- Lists in which each element is below the next one.
use Rattle.std.proofs.Common.{◌≡◌, zero, suc, IsSorted, arith, add-one, true, false, List, [], ◌∷◌, refl, sym, ap, ◌∙◌}
use Rattle.std.proofs.lemmas.Bool.{and_parts, and_from}
use Rattle.std.proofs.lemmas.Cmp.{tied_itself}
use Rattle.std.specs.declared.cmp.Ordering.{Ordering}
use Rattle.std.specs.declared.cmp.Ordering.TheVariants.{Less, Equal, Greater}
use Rattle.std.specs.Cmp.{IsTotalOrder}
use Rattle.std.specs.Ordering.{is_lt, ordering_reverse}
use Rattle.sqlite_trees.specs.Tree.{IsAscending}
use Rattle.sqlite_keyed.proofs.ListLemmas.{all_weaker}
use Rattle.store_rows.specs.Orders.{rises_above, rises}

pub less_is : (r : Ordering) → is_lt r ≡ true → r ≡ Less
less_is Less e = refl
less_is Equal e = absurd cc
less_is Greater e = absurd cc

module _ {X : Type 0} (cmp : X → X → Ordering) where
  abbrev Below : X → X → Type 0
  Below a b = cmp a b ≡ Less

  above_from : (x : X) (xs : List X) → IsAscending Below (x ∷ xs) → rises_above cmp x xs ≡ true
  above_from x [] up = refl
  above_from x (y ∷ ys) up = and_from (is_lt (cmp x y)) (rises_above cmp y ys) (ap is_lt up.0.0) (above_from y ys up.1)

  pub rises_from : (xs : List X) → IsAscending Below xs → rises cmp xs ≡ true
  rises_from [] up = refl
  rises_from (x ∷ xs) up = above_from x xs up

  module _ (total : IsTotalOrder cmp) where
    above_up : (x : X) (xs : List X) → rises_above cmp x xs ≡ true → IsAscending Below (x ∷ xs)
    above_up x [] t = (tt, tt)
    above_up x (y ∷ ys) t =
        let both = and_parts (is_lt (cmp x y)) (rises_above cmp y ys) t in
        let first = less_is (cmp x y) both.0 in
        let later = above_up y ys both.1 in
        ((first, all_weaker (Below y) (Below x) (λ z. total.trans x y z first) ys later.0), later)

    pub rises_up : (xs : List X) → rises cmp xs ≡ true → IsAscending Below xs
    rises_up [] t = tt
    rises_up (x ∷ xs) t = above_up x xs t

    -- what is below is another
    pub below_other : (x y : X) → Below x y → x ≡ y → ⊥
    below_other x y less same = let tie : cmp x y ≡ Equal = ap (λ z. cmp z y) same ∙ tied_itself total y in let bad : Less ≡ Equal = sym less ∙ tie in cc

    -- a sorted list of which no two tie rises
    from_next : (a b : Ordering) → b ≡ ordering_reverse a → is_lt b ≡ false → (a ≡ Equal → ⊥) → a ≡ Less
    from_next Less b e f apart = refl
    from_next Equal b e f apart = absurd (apart refl)
    from_next Greater b e f apart = absurd (let bad = ap is_lt (sym e) ∙ f in cc)

    strict : (x : X) (xs : List X) → IsSorted cmp (x ∷ xs) → IsAscending (λ a b. ¬ (cmp a b ≡ Equal)) (x ∷ xs) → IsAscending Below (x ∷ xs)
    strict x [] sorted apart = (tt, tt)
    strict x (y ∷ ys) sorted apart =
        let first = from_next (cmp x y) (cmp y x) (total.antisymm y x) (sorted 0 x (omega arith) (omega arith)) apart.0.0 in
        let tail : IsSorted cmp (y ∷ ys) = λ k d p q. rw add-one (rw add-one at (sorted (suc k) d (omega arith) (omega arith))) in
        let later = strict y ys tail apart.1 in
        ((first, all_weaker (Below y) (Below x) (λ z. total.trans x y z first) ys later.0), later)

    pub sorted_strict : (xs : List X) → IsSorted cmp xs → IsAscending (λ a b. ¬ (cmp a b ≡ Equal)) xs → IsAscending Below xs
    sorted_strict [] sorted apart = tt
    sorted_strict (x ∷ xs) sorted apart = strict x xs sorted apart

    -- a list that rises is sorted
    back_less : (a b : Ordering) → b ≡ ordering_reverse a → a ≡ Less → is_lt b ≡ false
    back_less a b e less = ap is_lt (e ∙ ap ordering_reverse less)

    pub up_sorted : (xs : List X) → IsAscending Below xs → IsSorted cmp xs
    up_sorted [] up k d p q = absurd (omega arith)
    up_sorted (x ∷ []) up k d p q = absurd (omega arith)
    up_sorted (x ∷ y ∷ ys) up zero d p q = back_less (cmp x y) (cmp y x) (total.antisymm y x) up.0.0
    up_sorted (x ∷ y ∷ ys) up (suc k) d p q = rw add-one (rw add-one at (up_sorted (y ∷ ys) up.1 k d (omega arith) (omega arith)))
