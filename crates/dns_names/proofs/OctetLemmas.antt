-- Rows of octets as the numbers that they are written as.
use Rattle.std.proofs.Common.{◌≡◌, ℕ, ◌+◌, ◌*◌, ◌^◌, ◌<◌, ◌≤◌, inl, inr, List, [], ◌∷◌, Ordering, true, false, length, get_or, take, drop, zero, suc, w64, refl, sym, ap, ◌∙◌, arith}
use Rattle.std.specs.Int.{from_be_bytes}
use Rattle.std.specs.declared.cmp.Ordering.TheVariants.{Less, Equal, Greater}
use Rattle.std.specs.Ordering.{nat_cmp, ordering_then, is_ne}
use Rattle.std.specs.Cmp.{nat_cmp_is}
use Rattle.std.specs.Cmp.Lexicographic.{slice_cmp}
use Rattle.std.proofs.Math.Nat.{mul-le-mul_left, pow-suc}
use Rattle.std.proofs.lemmas.Bool.{cases_lt}
use Rattle.dns_names.proofs.KeyLaws.{tied, then_assoc}

abbrev AreOctets : List ℕ → Type 0
AreOctets octets = (i : ℕ) → get_or octets i 0 < 256

behind_first : (o : ℕ) (octets : List ℕ) → AreOctets (o ∷ octets) → AreOctets octets
behind_first o octets all i = all (suc i)

-- a row as one number, the first octet first
pub worth : List ℕ → ℕ
worth [] = 0
worth (o ∷ octets) = 256 ^ length octets * o + worth octets

-- what stands first decides
higher : (a b u v p : ℕ) → a < b → u < p → p * a + u < p * b + v
higher a b u v p l fits =
    let more : p * suc a ≤ p * b = mul-le-mul_left p l in
    omega (arith, more)

-- the same in front of both does not count
shifted : (k u v : ℕ) → nat_cmp u v ≡ nat_cmp (k + u) (k + v)
shifted k u v =
    elim (cases_lt u v) [
      | inl l ↦ sym (nat_cmp_is u v Less l) ∙ nat_cmp_is (k + u) (k + v) Less (omega arith)
      | inr h ↦ elim (cases_lt v u) [
        | inl l ↦ sym (nat_cmp_is u v Greater l) ∙ nat_cmp_is (k + u) (k + v) Greater (omega arith)
        | inr g ↦ sym (nat_cmp_is u v Equal (omega arith)) ∙ nat_cmp_is (k + u) (k + v) Equal (omega arith)
      ]
    ]

-- and where it ties, what stands after it
order : (a b u v p : ℕ) → u < p → v < p → ordering_then (nat_cmp a b) (nat_cmp u v) ≡ nat_cmp (p * a + u) (p * b + v)
order a b u v p fits also =
    elim (cases_lt a b) [
      | inl l ↦ rw (sym (nat_cmp_is a b Less l)) (nat_cmp_is (p * a + u) (p * b + v) Less (higher a b u v p l fits))
      | inr h ↦ elim (cases_lt b a) [
        | inl l ↦ rw (sym (nat_cmp_is a b Greater l)) (nat_cmp_is (p * a + u) (p * b + v) Greater (higher b a v u p l also))
        | inr k ↦ let e : a ≡ b = omega arith in rw (e, tied b) (shifted (p * b) u v)
      ]
    ]

worth_fits : (octets : List ℕ) → AreOctets octets → worth octets < 256 ^ length octets
unfolding worth
worth_fits [] all = omega arith
worth_fits (o ∷ octets) all =
    let behind = worth_fits octets (behind_first o octets all) in
    let here : o < 256 = all 0 in
    let most : 256 ^ length octets * suc o ≤ 256 ^ length octets * 256 = mul-le-mul_left (256 ^ length octets) here in
    let full : 256 ^ length (o ∷ octets) ≡ 256 ^ length octets * 256 = pow-suc 256 (length octets) in
    omega (arith, behind, most, full)

pub by_worth : (xs ys : List ℕ) → length xs ≡ length ys → AreOctets xs → AreOctets ys → slice_cmp nat_cmp xs ys ≡ nat_cmp (worth xs) (worth ys)
unfolding worth
by_worth [] [] long all also = refl
by_worth [] (y ∷ ys) long all also = absurd cc
by_worth (x ∷ xs) [] long all also = absurd cc
by_worth (x ∷ xs) (y ∷ ys) long all also =
    let same : length xs ≡ length ys = omega arith in
    let here = behind_first x xs all in
    let there = behind_first y ys also in
    rw (by_worth xs ys same here there, ← same)
    (order x y (worth xs) (worth ys) (256 ^ length xs) (worth_fits xs here) (rw same (worth_fits ys there)))

pub eight : (xs : List ℕ) → length xs ≡ 8 → from_be_bytes w64 xs ≡ worth xs
unfolding worth
eight [] long = absurd cc
eight (a ∷ []) long = absurd cc
eight (a ∷ b ∷ []) long = absurd cc
eight (a ∷ b ∷ c ∷ []) long = absurd cc
eight (a ∷ b ∷ c ∷ d ∷ []) long = absurd cc
eight (a ∷ b ∷ c ∷ d ∷ e ∷ []) long = absurd cc
eight (a ∷ b ∷ c ∷ d ∷ e ∷ f ∷ []) long = absurd cc
eight (a ∷ b ∷ c ∷ d ∷ e ∷ f ∷ g ∷ []) long = absurd cc
eight (a ∷ b ∷ c ∷ d ∷ e ∷ f ∷ g ∷ h ∷ []) long = omega arith
eight (a ∷ b ∷ c ∷ d ∷ e ∷ f ∷ g ∷ h ∷ i ∷ rest) long = absurd (omega arith)

-- ---- a front of each

-- fronts of one length decide, unless they are one
front_order : (n : ℕ) (xs ys : List ℕ) → n ≤ length xs → n ≤ length ys → slice_cmp nat_cmp xs ys ≡ ordering_then (slice_cmp nat_cmp (take n xs) (take n ys)) (slice_cmp nat_cmp (drop n xs) (drop n ys))
front_order zero xs ys a b = refl
front_order (suc n) [] ys a b = absurd (omega arith)
front_order (suc n) (x ∷ xs) [] a b = absurd (omega arith)
front_order (suc n) (x ∷ xs) (y ∷ ys) a b =
    ap (ordering_then (nat_cmp x y)) (front_order n xs ys (omega arith) (omega arith)) ∙ then_assoc (nat_cmp x y) (slice_cmp nat_cmp (take n xs) (take n ys)) (slice_cmp nat_cmp (drop n xs) (drop n ys))

module _ (xs ys : List ℕ) (n : ℕ) (order whole : Ordering) (a : n ≤ length xs) (b : n ≤ length ys) (fronts : order ≡ slice_cmp nat_cmp (take n xs) (take n ys)) (so_far : slice_cmp nat_cmp xs ys ≡ whole) where
  both : ordering_then order (slice_cmp nat_cmp (drop n xs) (drop n ys)) ≡ whole
  both = ap (λ (o : Ordering). ordering_then o (slice_cmp nat_cmp (drop n xs) (drop n ys))) fronts ∙ sym (front_order n xs ys a b) ∙ so_far

  pub front_decides : is_ne order ≡ true → order ≡ whole
  front_decides differ = decided order (slice_cmp nat_cmp (drop n xs) (drop n ys)) differ ∙ both
    where
      decided : (o rest : Ordering) → is_ne o ≡ true → o ≡ ordering_then o rest
      decided Less rest e = refl
      decided Equal rest e = absurd cc
      decided Greater rest e = refl

  pub front_passes : is_ne order ≡ false → slice_cmp nat_cmp (drop n xs) (drop n ys) ≡ whole
  front_passes tie = passed order (slice_cmp nat_cmp (drop n xs) (drop n ys)) tie ∙ both
    where
      passed : (o rest : Ordering) → is_ne o ≡ false → rest ≡ ordering_then o rest
      passed Less rest e = absurd cc
      passed Equal rest e = refl
      passed Greater rest e = absurd cc
