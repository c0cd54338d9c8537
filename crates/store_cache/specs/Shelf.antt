-- What is kept of several zones.
use Rattle.std.specs.Prelude.{◌≡◌, ◌⊎◌, ℕ, List, [], ◌∷◌, ◌++◌, Bool, true, false, drop, Option, Some, None, IfSome, IsSomeAnd}
use Rattle.std.specs.List.{All}
use Rattle.store_cache.specs.declared.shelf.Shelf.{Shelf}

-- what is on a shelf, in the order in which it was put there
abbrev pub on : {T : Type 0} → Shelf T → List T
on shelf = shelf.kept.items

-- the same where there may be no shelf
abbrev pub on_any : {T : Type 0} → Option (Shelf T) → List T
on_any None = []
on_any (Some shelf) = on shelf

-- One that passes a test was taken, and the others are left; or none passes, and all are left.
abbrev pub IsTaken : {T : Type 0} → (T → Bool) → List T → Option T → List T → Type 0
IsTaken test old None new = (new ≡ old) × All (λ x. test x ≡ false) old
IsTaken {T} test old (Some x) new = (before after : List T) × (old ≡ before ++ x ∷ after) × (new ≡ before ++ after) × (test x ≡ true)

-- one more was put there, and the oldest may have gone
abbrev pub IsPut : {T : Type 0} → List T → Option T → List T → Type 0
IsPut old None new = new ≡ old
IsPut old (Some x) new = (gone : ℕ) × (new ≡ drop gone (old ++ x ∷ []))

-- What was at hand passes a test, and stays; or one that passes it is at hand in its place, if there is one, and what was at hand was put
-- on the shelf.
abbrev pub IsTurned : {T : Type 0} → (T → Bool) → Option T → List T → Option T → List T → Type 0
IsTurned {T} test hand old hand_after new =
    (IsSomeAnd hand (λ x. test x ≡ true) × (hand_after ≡ hand) × (new ≡ old))
    ⊎ (IfSome hand (λ x. test x ≡ false) × (rest : List T) × IsTaken test old hand_after rest × IsPut rest hand new)
