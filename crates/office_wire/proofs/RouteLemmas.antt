-- The rows of the routes by their numbers.
use Rattle.std.proofs.Common.{◌≡◌, ◌<◌, ◌≤◌, ℕ, zero, suc, List, [], ◌∷◌, map, length, Option, Some, None, refl, get_or, arith}
use Rattle.office_wire.specs.declared.route.Route.{Route}
use Rattle.office_wire.specs.Routes.{RouteRow, row_at}

module _ {A : Type 0} (f : A → RouteRow) where
  -- a row by its number in another list
  pub row_there : (rows : List A) (number : ℕ) (d : A) → number < length rows → row_at (map f rows) number ≡ Some ((f (get_or rows number d)).route, (f (get_or rows number d)).path)
  row_there [] number d less = absurd (omega arith)
  row_there (row ∷ rows) zero d less = refl
  row_there (row ∷ rows) (suc number) d less = row_there rows number d (omega arith)

  pub row_beyond : (rows : List A) (number : ℕ) → length rows ≤ number → (let o : Option (Route × List ℕ) = None in row_at (map f rows) number ≡ o)
  row_beyond [] number more = refl
  row_beyond (row ∷ rows) zero more = absurd (omega arith)
  row_beyond (row ∷ rows) (suc number) more = row_beyond rows number (omega arith)
