-- Lines that are appended one by one.
use Rattle.std.proofs.Common.{◌≡◌, ℕ, ◌≤◌, List, ◌++◌, length, take, ap, ◌∙◌}
use Rattle.std.proofs.lemmas.List.{take_all}
use Rattle.std.specs.List.{flat_map}

-- after the last there is no more
pub line_all : {X : Type 0} (line : X → List ℕ) (first : List ℕ) (xs : List X) (i : ℕ) (text : List ℕ) → length xs ≤ i → text ≡ first ++ flat_map line (take i xs) → text ≡ first ++ flat_map line xs
line_all {X} line first xs i text h so_far = so_far ∙ ap (λ (ys : List X). first ++ flat_map line ys) (take_all i xs h)
