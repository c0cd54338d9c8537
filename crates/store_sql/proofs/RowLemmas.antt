-- Rows that are read one by one.
use Rattle.std.proofs.Common.{◌≡◌, zero, suc, ℕ, ◌<◌, ℤ, List, [], ◌∷◌, ◌++◌, length, map, drop, get_or, sym, ap, subst, ◌∙◌, arith}
use mathlib.Core.List.{map-append}
use Rattle.std.specs.List.{AllByRecursion}
use Rattle.sqlite_value.specs.declared.value.Value.{Value}
use Rattle.sqlite_value.specs.declared.value.Value.TheVariants.{Int}
use Rattle.sqlite_value.specs.Order.{Row, column}
use Rattle.sqlite_trees.specs.Tree.{rowid}
use Rattle.sqlite_trees.proofs.ListLemmas.{all-append}
use Rattle.sqlite.specs.declared.error.Error.{Error}
use Rattle.sqlite.specs.declared.error.Error.TheVariants.{SqliteFailure}
use Rattle.sqlite.specs.declared.error.ErrorCode.TheVariants.{OutOfMemory}
use Rattle.store_sql.specs.declared.rows_fault.RowsFault.TheVariants.{BadRow}
use Rattle.store_sql.specs.Faults.{fault_of}
use Rattle.store_sql.specs.Stores.{AreNumbered, IsReadableRow, Numbers}

-- the store tells of no bad row
pub never_bad : (e : Error) → fault_of e ≡ BadRow → ⊥
never_bad (SqliteFailure OutOfMemory) h = absurd cc
never_bad _ h = absurd cc

-- a row among rows that are all stored is stored
pub stored_at : {X : Type 0} (f : X → Row) (P : Row → Type 0) (xs : List X) (i : ℕ) (row : Row) → i < length (map f xs) → row ≡ get_or (map f xs) i row → AllByRecursion P (map f xs) → (x : X) × (row ≡ f x) × P row
stored_at f P [] i row low is all = absurd (omega arith)
stored_at f P (x ∷ xs) zero row low is all = (x, is, subst P (sym is) all.0)
stored_at f P (x ∷ xs) (suc i) row low is all = stored_at f P xs i row (omega arith) is all.1

-- a row more, with its rowid and its value
pub numbered_more : {X : Type 0} (stored : X → Row) (rows : List Row) (ids : List ℤ) (xs : List X) (row : Row) (id : ℤ) (x : X) → AreNumbered stored rows ids xs → Numbers stored row id x
    → AreNumbered stored (rows ++ row ∷ []) (ids ++ id ∷ []) (xs ++ x ∷ [])
numbered_more stored rows ids xs row id x h one = record {
  first = map-append rowid rows (row ∷ []) ∙ ap (λ l. l ++ rowid row ∷ []) h.first ∙ ap (λ v. map Int ids ++ v ∷ []) one.first ∙ sym (map-append Int ids (id ∷ []));
  rest = map-append (drop 1) rows (row ∷ []) ∙ ap (λ l. l ++ drop 1 row ∷ []) h.rest ∙ ap (λ r. map stored xs ++ r ∷ []) one.rest ∙ sym (map-append stored xs (x ∷ []));
  readable = subst (AllByRecursion IsReadableRow) (sym (map-append (drop 1) rows (row ∷ []))) (all-append IsReadableRow (map (drop 1) rows) (drop 1 row ∷ []) h.readable (one.readable, tt));
}

-- among rows that all have a rowid and a value with a property, so has the one after some
pub numbered_behind : {X : Type 0} (stored : X → Row) (P : X → Type 0) (given : List Row) (row : Row) (tail : List Row) (ids : List ℤ) (xs : List X) → AreNumbered stored ((given ++ row ∷ []) ++ tail) ids xs → AllByRecursion P xs
    → (id : ℤ) × (x : X) × Numbers stored row id x × P x
numbered_behind stored P [] row tail [] xs h all = absurd (let none = h.first in cc)
numbered_behind stored P [] row tail (id ∷ ids) [] h all = absurd (let none = h.rest in cc)
numbered_behind stored P [] row tail (id ∷ ids) (x ∷ xs) h all =
    let first : rowid row ≡ Int id = (let e = h.first in cc) in
    let rest : drop 1 row ≡ stored x = (let e = h.rest in cc) in
    (id, x, record { first = first; rest = rest; readable = h.readable.0 }, all.0)
numbered_behind stored P (r ∷ given) row tail [] xs h all = absurd (let none = h.first in cc)
numbered_behind stored P (r ∷ given) row tail (id ∷ ids) [] h all = absurd (let none = h.rest in cc)
numbered_behind stored P (r ∷ given) row tail (id ∷ ids) (x ∷ xs) h all =
    let first : map rowid ((given ++ row ∷ []) ++ tail) ≡ map Int ids = (let e = h.first in cc) in
    let rest : map (drop 1) ((given ++ row ∷ []) ++ tail) ≡ map stored xs = (let e = h.rest in cc) in
    numbered_behind stored P given row tail ids xs (record { first = first; rest = rest; readable = h.readable.1 }) all.1

pub five : (r : Row) (a b c d e : Value) → length r ≡ 5 → column r 0 ≡ a → column r 1 ≡ b → column r 2 ≡ c → column r 3 ≡ d → column r 4 ≡ e → r ≡ a ∷ b ∷ c ∷ d ∷ e ∷ []
five (u ∷ v ∷ w ∷ x ∷ y ∷ []) a b c d e len p q r s t = cc
five _ a b c d e len p q r s t = absurd (omega arith)

pub six : (r : Row) (a b c d e f : Value) → length r ≡ 6 → column r 0 ≡ a → column r 1 ≡ b → column r 2 ≡ c → column r 3 ≡ d → column r 4 ≡ e → column r 5 ≡ f → r ≡ a ∷ b ∷ c ∷ d ∷ e ∷ f ∷ []
six (u ∷ v ∷ w ∷ x ∷ y ∷ z ∷ []) a b c d e f len p q r s t o = cc
six _ a b c d e f len p q r s t o = absurd (omega arith)

pub seven : (r : Row) (a b c d e f h : Value) → length r ≡ 7 → column r 0 ≡ a → column r 1 ≡ b → column r 2 ≡ c → column r 3 ≡ d → column r 4 ≡ e → column r 5 ≡ f → column r 6 ≡ h
    → r ≡ a ∷ b ∷ c ∷ d ∷ e ∷ f ∷ h ∷ []
seven (u ∷ v ∷ w ∷ x ∷ y ∷ z ∷ k ∷ []) a b c d e f h len p q r s t o n = cc
seven _ a b c d e f h len p q r s t o n = absurd (omega arith)
