-- What is found in a table by its word.
use Rattle.std.proofs.Common.{◌≡◌, ◌↔◌, ℕ, Bool, true, false, cond, List, [], ◌∷◌, Option, Some, refl, sym, subst, ◌∙◌}
use Rattle.std.specs.Prelude.{bytes_eq}
use Rattle.std.specs.List.{find}
use Rattle.std.proofs.lemmas.Slice.Eq.{bytes_eq-Decides}

pub found_passes : {T : Type 0} (test : T → Bool) (all : List T) (t : T) → find test all ≡ Some t → test t ≡ true
found_passes test [] t e = absurd cc
found_passes {T} test (s ∷ all) t e = first_passes (test s) refl (found_passes test all t) e
  where
    first_passes : (b : Bool) → test s ≡ b → (find test all ≡ Some t → test t ≡ true) → cond b (Some s) (find test all) ≡ Some t → test t ≡ true
    first_passes true p later e = let q : s ≡ t = cc in subst (λ (u : T). test u ≡ true) q p
    first_passes false p later e = later e

-- what is found by its word is what has that word, where each is found by its own
pub by_word : {T : Type 0} (text : T → List ℕ) (all : List T) → ((t : T) → find (λ s. bytes_eq (text s) (text t)) all ≡ Some t) → (word : List ℕ) (r : Option T) → r ≡ find (λ s. bytes_eq (text s) word) all → (t : T) → (r ≡ Some t) ↔ (text t ≡ word)
by_word {T} text all own word r e t = (
  λ found. (bytes_eq-Decides (text t) word).0 (found_passes (λ s. bytes_eq (text s) word) all t (sym e ∙ found)),
  λ is. e ∙ subst (λ (w : List ℕ). find (λ s. bytes_eq (text s) w) all ≡ Some t) is (own t),
)
