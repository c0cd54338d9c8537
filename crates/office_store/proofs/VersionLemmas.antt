-- The rows of `meta`.
use Rattle.std.proofs.Common.{◌≡◌, ℤ, List, [], ◌∷◌, map, IsPermutation}
use Rattle.std.proofs.lemmas.List.Sorted.{IsPermutation-trans}
use Rattle.sqlite_value.specs.Order.{Row}
use Rattle.store_sql.specs.Tables.{stored_version}
use Rattle.store_sql.specs.Stores.{Stores}
use Rattle.store_sql.proofs.Selections.{one_stored_version}
use Rattle.store_sql.proofs.WholeTables.{stored_same}
use Rattle.store_rows.proofs.ListLemmas.{one_moved}

-- a table that stores one version stores no other
pub one_version : (tree : List Row) (n : ℤ) (xs ys : List ℤ) → IsPermutation (n ∷ []) xs → Stores tree (map stored_version xs) → Stores tree (map stored_version ys) → ys ≡ n ∷ []
one_version tree n xs ys same a b = one_moved n ys (IsPermutation-trans _ _ _ same (stored_same stored_version one_stored_version tree xs ys a b))
