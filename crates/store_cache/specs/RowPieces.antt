-- Rows in record order, in pieces.
use Rattle.std.specs.Prelude.{◌≡◌, ◌⊎◌, ℕ, suc, ◌<◌, ◌≤◌, get_or, List, [], ◌∷◌, length, take, drop, Vec, Bool, true, false, cond, not}
use Rattle.std.specs.List.{AllByRecursion, filter, flat_map}
use Rattle.std.specs.Ordering.{is_lt}
use Rattle.dns_data.specs.declared.record.Record.{Record}
use Rattle.zone_core.specs.Sets.{key_of, same_key, record_order, InOrder}

-- the rows of pieces, one piece after the other
abbrev pub flat : {A : Type 0} → List (Vec Record A) → List Record
flat pieces = flat_map (λ v. v.items) pieces

-- rows in record order, in pieces of which none is empty
pub record ArePieces {A : Type 0} (pieces : List (Vec Record A)) : Type 0 where
  pub order : InOrder (flat pieces)
  pub some : AllByRecursion (λ v. 0 < length v.items) pieces

-- whether the last of some rows passes a test, if there is one
abbrev pub last_passes : (Record → Bool) → List Record → Bool
last_passes p [] = true
last_passes p (x ∷ []) = p x
last_passes p (x ∷ y ∷ ys) = last_passes p (y ∷ ys)

-- where the pieces that pass a test end
pub record IsPlace {A : Type 0} (p : Vec Record A → Bool) (pieces : List (Vec Record A)) (place : ℕ) : Type 0 where
  pub within : place ≤ length pieces
  pub before : AllByRecursion (λ v. p v ≡ true) (take place pieces)
  pub behind : AllByRecursion (λ v. p v ≡ false) (drop place pieces)

-- whether a record is not the same as another
abbrev pub is_other : Record → Record → Bool
is_other r x = not (same_key (key_of r) (key_of x))

-- rows with a record at its place, which takes that of the same one
abbrev pub placed : Record → List Record → List Record
placed r [] = r ∷ []
placed r (x ∷ xs) = cond (is_lt (record_order x r)) (x ∷ placed r xs) (r ∷ filter (is_other r) (x ∷ xs))

-- rows without those that are the same as some records, one after the other
abbrev pub removed : List Record → List Record → List Record
removed [] rows = rows
removed (r ∷ rs) rows = removed rs (filter (is_other r) rows)

-- rows with records at their places, the last one first
abbrev pub put_back : List Record → List Record → List Record
put_back [] rows = rows
put_back (r ∷ rs) rows = placed r (put_back rs rows)

-- the piece after those that pass a test, or else the last one
pub record IsPlaceAmong {A : Type 0} (p : Vec Record A → Bool) (pieces : List (Vec Record A)) (place : ℕ) : Type 0 where
  pub before : AllByRecursion (λ v. p v ≡ true) (take place pieces)
  pub here : ((piece : Vec Record A) → place < length pieces → piece ≡ get_or pieces place piece → (p piece ≡ false) ⊎ (length pieces ≡ suc place))
  pub none : length pieces ≤ place → pieces ≡ []
