-- Lines of records with the changes that brought them.
use Rattle.std.proofs.Common.{◌≡◌, ℕ, zero, suc, ◌+◌, ◌<◌, ◌≤◌, List, [], ◌∷◌, ◌++◌, length, map, get_or, take, slice_index_or, append-nil, append_assoc, refl, sym, ap, ◌∙◌, arith}
use Rattle.std.specs.List.{flat_map, zip}

module _ {X Y : Type 0} (f : X × Y → List ℕ) where
  -- one pair more
  zip_suc : (i : ℕ) (xs : List X) (ys : List Y) (x : X) (d : Y) → i < length xs → length ys ≡ length xs → x ≡ get_or xs i x
      → flat_map f (take (suc i) (zip xs ys)) ≡ flat_map f (take i (zip xs ys)) ++ f (x, slice_index_or ys i d)
  zip_suc zero [] ys x d lt same at = absurd (omega arith)
  zip_suc zero (a ∷ xs) [] x d lt same at = absurd (omega (arith, same))
  zip_suc zero (a ∷ xs) (b ∷ ys) x d lt same at = append-nil (f (a, b)) ∙ ap (λ (z : X). f (z, b)) (sym at)
  zip_suc (suc i) [] ys x d lt same at = absurd (omega (arith, lt))
  zip_suc (suc i) (a ∷ xs) [] x d lt same at = absurd (omega (arith, same))
  zip_suc (suc i) (a ∷ xs) (b ∷ ys) x d lt same at =
      ap (λ (rest : List ℕ). f (a, b) ++ rest) (zip_suc i xs ys x d (omega (arith, lt)) (omega (arith, same)) at) ∙ sym (append_assoc (f (a, b)) (flat_map f (take i (zip xs ys))) (f (x, slice_index_or ys i d)))

  pub zip_next : (i : ℕ) (xs : List X) (ys : List Y) (x : X) (d : Y) → i < length xs → length ys ≡ length xs → x ≡ get_or xs i x
      → flat_map f (take (i + 1) (zip xs ys)) ≡ flat_map f (take i (zip xs ys)) ++ f (x, slice_index_or ys i d)
  zip_next i xs ys x d lt same at = ap (λ n. flat_map f (take n (zip xs ys))) (let more : i + 1 ≡ suc i = omega arith in more) ∙ zip_suc i xs ys x d lt same at

-- all pairs
pub zip_end : {X Y : Type 0} (i : ℕ) (xs : List X) (ys : List Y) → length xs ≤ i → take i (zip xs ys) ≡ zip xs ys
zip_end zero [] ys few = refl
zip_end zero (a ∷ xs) ys few = absurd (omega (arith, few))
zip_end (suc i) [] ys few = refl
zip_end (suc i) (a ∷ xs) [] few = refl
zip_end {X} {Y} (suc i) (a ∷ xs) (b ∷ ys) few = ap (λ (rest : List (X × Y)). (a, b) ∷ rest) (zip_end i xs ys (omega (arith, few)))

-- pairs of values and what is made of each
pub zip_with : {X Y : Type 0} (f : X → Y → List ℕ) (g : X → Y) (xs : List X) → flat_map (λ (p : X × Y). f p.0 p.1) (zip xs (map g xs)) ≡ flat_map (λ x. f x (g x)) xs
zip_with f g [] = refl
zip_with f g (x ∷ xs) = ap (λ (rest : List ℕ). f x (g x) ++ rest) (zip_with f g xs)
