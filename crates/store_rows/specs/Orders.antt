-- Lists in which each element is below the next one.
use Rattle.std.specs.Prelude.{List, [], ◌∷◌, Bool, true, ◌&&◌}
use Rattle.std.specs.declared.cmp.Ordering.{Ordering}
use Rattle.std.specs.Ordering.{is_lt}

-- the first is above this one, and each is below the next
abbrev pub rises_above : {X : Type 0} → (X → X → Ordering) → X → List X → Bool
rises_above cmp x [] = true
rises_above cmp x (y ∷ ys) = is_lt (cmp x y) && rises_above cmp y ys

-- each is below the next
abbrev pub rises : {X : Type 0} → (X → X → Ordering) → List X → Bool
rises cmp [] = true
rises cmp (x ∷ xs) = rises_above cmp x xs
