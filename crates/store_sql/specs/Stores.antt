-- What a table stores, whatever rowids it gave and in whatever order.
use Rattle.std.specs.Prelude.{◌≡◌, ℤ, false, List, ◌++◌, map, drop, IsTrue, IsUtf8, IsPermutation}
use Rattle.std.specs.List.{AllByRecursion}
use Rattle.std.specs.Ordering.{is_eq}
use Rattle.sqlite_value.specs.declared.value.Value.{Value}
use Rattle.sqlite_value.specs.declared.value.Value.TheVariants.{Null, Int, Real, Text, Blob}
use Rattle.sqlite_value.specs.Order.{Row, value_cmp}
use Rattle.sqlite_trees.specs.Tree.{IsAscending, rowid}
use Rattle.sqlite_trees.specs.View.{is_int}

abbrev pub HasOwnRowid : Row → Row → Type 0
HasOwnRowid a b = is_eq (value_cmp (rowid a) (rowid b)) ≡ false

-- each rowid comes once
abbrev pub AreApart : List Row → Type 0
AreApart = IsAscending HasOwnRowid

-- a text is UTF-8
abbrev pub IsReadable : Value → Type 0
IsReadable (Text t) = IsUtf8 t
IsReadable Null = Unit {0}
IsReadable (Int n) = Unit {0}
IsReadable (Real x) = Unit {0}
IsReadable (Blob b) = Unit {0}

abbrev pub IsReadableRow : Row → Type 0
IsReadableRow = AllByRecursion IsReadable

-- the rows are these, each with a rowid of its own before it, in some order, and their texts are UTF-8
pub record Stores (rows : List Row) (xs : List Row) : Type 0 where
  pub apart : AreApart rows
  pub numbered : AllByRecursion (λ r. IsTrue (is_int (rowid r))) rows
  pub same : IsPermutation xs (map (drop 1) rows)
  pub readable : AllByRecursion IsReadableRow xs

-- different values are stored as different rows
abbrev pub IsOneToOne : {X : Type 0} → (X → Row) → Type 0
IsOneToOne stored = (x y : _) → stored x ≡ stored y → x ≡ y

-- a row of an answer has this rowid, and after it what is stored of a value
pub record Numbers {X : Type 0} (stored : X → Row) (row : Row) (id : ℤ) (x : X) : Type 0 where
  pub first : rowid row ≡ Int id
  pub rest : drop 1 row ≡ stored x
  pub readable : IsReadableRow (drop 1 row)

-- the same of some rows, in their order
pub record AreNumbered {X : Type 0} (stored : X → Row) (rows : List Row) (ids : List ℤ) (xs : List X) : Type 0 where
  pub first : map rowid rows ≡ map Int ids
  pub rest : map (drop 1) rows ≡ map stored xs
  pub readable : AllByRecursion IsReadableRow (map (drop 1) rows)

-- no rows that begin with these are those of values that all have a property
abbrev pub BeginNone : {X : Type 0} → (X → Row) → (X → Type 0) → List Row → Type 0
BeginNone {X} stored P rows = IsOneToOne stored → (tail : List Row) (xs : List X) → Stores (rows ++ tail) (map stored xs) → AllByRecursion P xs → ⊥
