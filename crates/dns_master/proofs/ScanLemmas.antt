-- How far a scan goes.
use Rattle.std.proofs.Common.{◌≡◌, ℕ, suc, ◌≤◌, Bool, true, false, eqb, List, [], ◌∷◌, length, refl, arith, ne_eqb}
use Rattle.std.proofs.lemmas.Bool.{cond_both}
use Rattle.dns_master.specs.Pieces.{scan, line_len}

module _ (stops : ℕ → Bool) where
  -- at an octet that stops
  pub scan_stop : (o : ℕ) (rest : List ℕ) → stops o ≡ true → scan stops false (o ∷ rest) ≡ 0
  scan_stop o rest h = rw h refl

  -- past an octet
  pub scan_go : (o : ℕ) (rest : List ℕ) → stops o ≡ false → (o ≡ 92 → ⊥) → scan stops false (o ∷ rest) ≡ suc (scan stops false rest)
  scan_go o rest h k = rw (h, ne_eqb o 92 k) refl

  -- past a backslash and the octet that it takes
  pub scan_taken : (x : ℕ) (rest : List ℕ) → stops 92 ≡ false → scan stops false (92 ∷ x ∷ rest) ≡ suc (suc (scan stops false rest))
  scan_taken x rest h = rw h refl

  -- past a backslash at the end
  pub scan_last : stops 92 ≡ false → scan stops false (92 ∷ []) ≡ 1
  scan_last h = rw h refl

  -- a scan stays within the text
  pub scan_within : (taken : Bool) (text : List ℕ) → scan stops taken text ≤ length text
  scan_within taken [] = omega arith
  scan_within true (o ∷ rest) = omega (arith, scan_within false rest)
  scan_within false (o ∷ rest) = cond_both (stops o) 0 (suc (scan stops (eqb o 92) rest)) (λ n. n ≤ suc (length rest)) (λ h. omega arith) (λ h. omega (arith, scan_within (eqb o 92) rest))

pub line_within : (text : List ℕ) → line_len text ≤ length text
line_within [] = omega arith
line_within (o ∷ rest) = cond_both (eqb o 10) 0 (suc (line_len rest)) (λ n. n ≤ suc (length rest)) (λ h. omega arith) (λ h. omega (arith, line_within rest))
