-- What `retain` leaves, by a closure that stays as it was made.
use Rattle.std.proofs.Common.{◌≡◌, List, [], ◌∷◌, length, Bool, true, false, cond, refl, subst, ◌∙◌, arith}
use Rattle.std.specs.List.{filter, items_where_true}
use Rattle.std.specs.List.Retain.{ReturnsInTurn, IsFiltered}

kept : {X : Type 0} (b : Bool) (x : X) (bs : List Bool) (xs : List X) → items_where_true (b ∷ bs) (x ∷ xs) ≡ cond b (x ∷ items_where_true bs xs) (items_where_true bs xs)
kept true x bs xs = refl
kept false x bs xs = refl

module _ {P X : Type 0} (R : P → X → Bool → P → Type 0) (test : X → Bool) (p : P) (says : (x : X) (b : Bool) (q : P) → R p x b q → (b ≡ test x) × (q ≡ p)) where
  in_turn : (bs : List Bool) (xs : List X) (q : P) → length bs ≡ length xs → ReturnsInTurn R p bs xs q → items_where_true bs xs ≡ filter test xs
  in_turn [] [] q long turns = refl
  in_turn [] (x ∷ xs) q long turns = absurd (omega arith)
  in_turn (b ∷ bs) [] q long turns = absurd (omega arith)
  in_turn (b ∷ bs) (x ∷ xs) q long turns =
      let said = says x b turns.0 turns.1 in
      let rest = in_turn bs xs q (omega arith) (subst (λ j. ReturnsInTurn R j bs xs q) said.1 turns.2) in
      kept b x bs xs ∙ (λ i. cond (said.0 i) (x ∷ rest i) (rest i))

  pub retain_is : (xs ys : List X) → IsFiltered R p xs ys → ys ≡ filter test xs
  retain_is xs ys filtered = filtered.4 ∙ in_turn filtered.0 xs filtered.1 filtered.2 filtered.3
