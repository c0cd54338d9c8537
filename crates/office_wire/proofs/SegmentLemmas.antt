-- The segments of a path are what its slashes separate.
use Rattle.std.proofs.Common.{◌≡◌, ℕ, zero, suc, ◌<◌, Bool, true, false, cond, List, [], ◌∷◌, ◌++◌, length, refl, sym, ap, subst, ◌∙◌, arith, ◌==◌}
use Rattle.std.specs.List.{AllByRecursion, flat_map}
use Rattle.std.proofs.lemmas.Bool.Decides.{nat_tests}
use Rattle.office_wire.specs.Paths.{widen, segments, joined, HasNoSlash, SegmentsAreBetweenSlashes}
use Rattle.office_wire.proofs.SlashLemmas.{nil}

-- segments after others
abbrev rest : List (List ℕ) → List ℕ
rest ss = flat_map (λ s. 47 ∷ s) ss

record AreBetween (path : List ℕ) (ss : List (List ℕ)) : Type 0 where
  some : 0 < length ss
  none : AllByRecursion HasNoSlash ss
  joins : path ≡ joined ss

no_octet : HasNoSlash []
no_octet h = omega (arith, h.1)

one_octet : (o : ℕ) (s : List ℕ) → (o == 47) ≡ false → HasNoSlash s → HasNoSlash (o ∷ s)
one_octet o s e none (zero, less, is) = absurd (grind (arith, nat_tests))
one_octet o s e none (suc k, less, is) = none (k, omega arith, is)

first_octet : (o : ℕ) (s : List ℕ) → HasNoSlash (o ∷ s) → (o == 47) ≡ false
first_octet o s none = by (o == 47) refl
  where
    by : (b : Bool) → (o == 47) ≡ b → b ≡ false
    by false e = refl
    by true e = let is : o ≡ 47 = grind (arith, nat_tests) in absurd (none (0, omega arith, is))

later_octets : (o : ℕ) (s : List ℕ) → HasNoSlash (o ∷ s) → HasNoSlash s
later_octets o s none h = none (suc h.0, omega (arith, h.1), h.2)

slashed : (path : List ℕ) (ss : List (List ℕ)) → AreBetween path ss → AreBetween (47 ∷ path) ([] ∷ ss)
slashed path [] h = absurd (omega (arith, h.some))
slashed path (s ∷ ss) h = record { some = omega arith; none = (no_octet, h.none); joins = ap (λ (l : List ℕ). 47 ∷ l) h.joins }

widened : (o : ℕ) (path : List ℕ) (ss : List (List ℕ)) → (o == 47) ≡ false → AreBetween path ss → AreBetween (o ∷ path) (widen o ss)
widened o path [] e h = absurd (omega (arith, h.some))
widened o path (s ∷ ss) e h = record { some = omega arith; none = (one_octet o s e h.none.0, h.none.1); joins = ap (λ (l : List ℕ). o ∷ l) h.joins }

between : (path : List ℕ) → AreBetween path (segments path)
between [] = record { some = omega arith; none = (no_octet, tt); joins = refl }
between (o ∷ path) = by (o == 47) refl (between path)
  where
    by : (b : Bool) → (o == 47) ≡ b → AreBetween path (segments path) → AreBetween (o ∷ path) (cond b (nil ∷ segments path) (widen o (segments path)))
    by true e h =
        let is : o ≡ 47 = grind (arith, nat_tests) in
        subst (λ (x : ℕ). AreBetween (x ∷ path) (nil ∷ segments path)) (sym is) (slashed path (segments path) h)
    by false e h = widened o path (segments path) e h

cut_again : (s : List ℕ) (ss : List (List ℕ)) → HasNoSlash s → segments (rest ss) ≡ nil ∷ ss → segments (s ++ rest ss) ≡ s ∷ ss
cut_again [] ss none e = e
cut_again (o ∷ s) ss none e =
    let f = first_octet o s none in
    rw f (ap (widen o) (cut_again s ss (later_octets o s none) e))

segments_again : (ss : List (List ℕ)) → AllByRecursion HasNoSlash ss → segments (rest ss) ≡ nil ∷ ss
segments_again [] none = refl
segments_again (s ∷ ss) none = ap (λ (l : List (List ℕ)). nil ∷ l) (cut_again s ss none.0 (segments_again ss none.1))

joined_again : (ss : List (List ℕ)) → 0 < length ss → AllByRecursion HasNoSlash ss → segments (joined ss) ≡ ss
joined_again [] some none = absurd (omega arith)
joined_again (s ∷ ss) some none = cut_again s ss none.0 (segments_again ss none.1)

pub segments_between : SegmentsAreBetweenSlashes
segments_between path ss = (
  (λ e. let h = subst (AreBetween path) e (between path) in (h.some, h.none, h.joins)),
  (λ h. ap segments h.2 ∙ joined_again ss h.0 h.1),
)
