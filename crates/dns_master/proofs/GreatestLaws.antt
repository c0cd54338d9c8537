-- What was said last, carried from number to number.
use Rattle.std.proofs.Common.{◌≡◌, ℕ, suc, ◌<◌, ◌≤◌, inl, inr, Option, Some, None, refl, sym, ap, subst, ◌∙◌, arith}
use Rattle.std.proofs.lemmas.Bool.{cases_order}
use Rattle.std.proofs.Math.Nat.{eq-or-lt_of_le}
use Rattle.dns_master.specs.Greatest.{Greatest, LastSaid, LastOr}
use Rattle.dns_master.specs.InForce.{or_else}

module _ {A : Type 0} (says : ℕ → Option A) where
  -- nothing was said before the first
  pub last_none : LastSaid says 0 None
  last_none i h = absurd (omega arith)

  silent_more : (k : ℕ) → ((i : ℕ) → i < k → says i ≡ None) → says k ≡ None → (i : ℕ) → i < suc k → says i ≡ None
  silent_more k before here i h = let le : i ≤ k = omega arith in elim (eq-or-lt_of_le le) [ inr p ↦ before i p | inl p ↦ subst (λ (n : ℕ). says n ≡ None) (sym p) here ]

  here_greatest : (k : ℕ) (x : A) → says k ≡ Some x → Greatest says (suc k) k x
  here_greatest k x e = record { below = omega arith; here = e; later = λ i p q. absurd (omega arith) }

  still_greatest : (k j : ℕ) (x : A) → says k ≡ None → Greatest says k j x → Greatest says (suc k) j x
  still_greatest k j x e g = record { below = omega (arith, g.below); here = g.here; later = λ i p q. let le : i ≤ k = omega arith in elim (eq-or-lt_of_le le) [ inr h ↦ g.later i p h | inl h ↦ subst (λ (n : ℕ). says n ≡ None) (sym h) e ] }

  -- one more number
  pub last_more : (k : ℕ) (x r : Option A) → says k ≡ x → LastSaid says k r → LastSaid says (suc k) (or_else x r)
  last_more k (Some x) r e h = (k, here_greatest k x e)
  last_more k None None e h = silent_more k h e
  last_more k None (Some y) e h = (h.0, still_greatest k h.0 y e h.1)

  -- the same with a value that was handed in
  pub or_more : (k : ℕ) (x : Option A) (handed value : A) (next : A) → says k ≡ x → ((y : A) → x ≡ Some y → next ≡ y) → (x ≡ None → next ≡ value) → LastOr says k handed value → LastOr says (suc k) handed next
  or_more k (Some x) handed value next e some none h = inl (k, subst (Greatest says (suc k) k) (sym (some x refl)) (here_greatest k x e))
  or_more k None handed value next e some none (inl h) = inl (h.0, subst (Greatest says (suc k) h.0) (sym (none refl)) (still_greatest k h.0 value e h.1))
  or_more k None handed value next e some none (inr h) = inr (silent_more k h.0 e, none refl ∙ h.1)

  -- there is one greatest number
  pub greatest_once : (k i j : ℕ) (x y : A) → Greatest says k i x → Greatest says k j y → x ≡ y
  greatest_once k i j x y g h = elim (cases_order i j) [
    | inr (inl p) ↦ absurd (let a = g.later j p h.below in let b = h.here in cc)
    | inr (inr p) ↦ absurd (let a = h.later i p g.below in let b = g.here in cc)
    | inl p ↦ (let a : says j ≡ Some x = subst (λ (n : ℕ). says n ≡ Some x) p g.here in let b = h.here in cc)
  ]

-- two sayings that agree below k have the same last
module _ {A : Type 0} (says other : ℕ → Option A) (k : ℕ) (same : (i : ℕ) → i < k → says i ≡ other i) where
  moved : (j : ℕ) (x : A) → Greatest says k j x → Greatest other k j x
  moved j x g = record { below = g.below; here = sym (same j g.below) ∙ g.here; later = λ i p q. sym (same i q) ∙ g.later i p q }

  pub last_once : (r t : Option A) → LastSaid says k r → LastSaid other k t → r ≡ t
  last_once None None h g = refl
  last_once None (Some y) h g = absurd (let a = sym (same g.0 g.1.below) ∙ h g.0 g.1.below in let b = g.1.here in cc)
  last_once (Some x) None h g = absurd (let a = same h.0 h.1.below ∙ g h.0 h.1.below in let b = h.1.here in cc)
  last_once (Some x) (Some y) h g = ap (λ (v : A). Some v) (greatest_once other k h.0 g.0 x y (moved h.0 x h.1) g.1)

  pub or_once : (handed r t : A) → LastOr says k handed r → LastOr other k handed t → r ≡ t
  or_once handed r t (inl h) (inl g) = greatest_once other k h.0 g.0 r t (moved h.0 r h.1) g.1
  or_once handed r t (inl h) (inr g) = absurd (let a = same h.0 h.1.below ∙ g.0 h.0 h.1.below in let b = h.1.here in cc)
  or_once handed r t (inr h) (inl g) = absurd (let a = sym (same g.0 g.1.below) ∙ h.0 g.0 g.1.below in let b = g.1.here in cc)
  or_once handed r t (inr h) (inr g) = h.1 ∙ sym g.1
