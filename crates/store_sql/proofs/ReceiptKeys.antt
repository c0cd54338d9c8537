-- The key of `receipts` is that of one row.
use Rattle.std.proofs.Common.{◌≡◌, ◌⊎◌, ℕ, true, false, not, ◌&&◌, IsTrue, List, [], ◌∷◌, map, drop, bytes_eq, inl, inr, refl, sym, subst, ◌∙◌, arith}
use Rattle.std.specs.List.{AllByRecursion, IsDistinct}
use Rattle.std.proofs.lemmas.Bool.{and_from, not-true, cases_Bool}
use Rattle.std.proofs.lemmas.List.Sorted.{IsPermutation-sym}
use Rattle.std.proofs.lemmas.Map.Keys.{IsDistinct-IsPermutation, IsDistinct-from_apart, IsDistinct-cons}
use Rattle.sqlite_value.specs.declared.value.Value.TheVariants.{Int}
use Rattle.sqlite_value.specs.Keys.{plain, first_key}
use Rattle.sqlite_value.specs.Order.{Row}
use Rattle.sqlite_trees.specs.Tree.{rowid}
use Rattle.sqlite_trees.specs.View.{is_int}
use Rattle.sqlite_trees.proofs.ListLemmas.{all_both, pull_back}
use Rattle.sqlite_schema.specs.declared.schema.Constraint.TheVariants.{Unique}
use Rattle.sqlite_schema.specs.Rules.{agree, clashes, guards, differ, passes}
use Rattle.sqlite_rules.specs.Lists.{Has}
use Rattle.sqlite_rules.specs.Edit.{id_in}
use Rattle.sqlite_rules.proofs.ListLemmas.{all_has, test_has, some_from}
use Rattle.sqlite_rules.proofs.TableLemmas.{int_is}
use Rattle.sqlite.specs.Effect.{Database, IsDatabase}
use Rattle.store_sql.specs.Rows.{ReceiptRowOf, same_receipt_key}
use Rattle.store_sql.specs.declared.layout.Layout.{Layout}
use Rattle.store_sql.specs.declared.layout.Layout.TheVariants.{IndexAfterRecords, IndexLast}
use Rattle.store_sql.specs.Tables.{receipts, receipts_key, receipts_tree, office_schema, stored_receipt}
use Rattle.store_sql.specs.Stores.{AreApart, HasOwnRowid, Stores}
use Rattle.store_sql.proofs.StatementLemmas.{differ_ids}
use Rattle.store_sql.proofs.Values.{and_true, bytes_eq_sym, same_text}

abbrev receipt_key : List ℕ
receipt_key = 1 ∷ 2 ∷ []

-- rows of the table agree in its key where the receipts do
agreed : (r s : Row) (x y : ReceiptRowOf) → drop 1 r ≡ stored_receipt x → drop 1 s ≡ stored_receipt y → agree plain receipt_key r receipt_key s ≡ same_receipt_key x y
unfolding first_key
agreed [] s x y e f = absurd cc
agreed (u ∷ r) [] x y e f = absurd cc
agreed (u ∷ r) (v ∷ s) x y e f =
    let p : r ≡ stored_receipt x = e in
    let q : s ≡ stored_receipt y = f in
    rw (p, q, same_text x.caller y.caller, same_text x.id y.id, and_true (bytes_eq x.id y.id)) refl

keys_turned : (x y : ReceiptRowOf) → same_receipt_key x y ≡ same_receipt_key y x
keys_turned x y = rw (bytes_eq_sym x.caller y.caller, bytes_eq_sym x.id y.id) refl

all_had : {X : Type 0} (xs : List X) {P : X → Type 0} → ((x : X) → Has xs x → P x) → AllByRecursion P xs
all_had [] each = tt
all_had (x ∷ xs) each = (each x (inl refl), all_had xs (λ y has. each y (inr has)))

-- the index of the key is there, and guards the table
listed : (l : Layout) → Has (office_schema l).indexes (receipts_key l)
listed IndexAfterRecords = inr (inr (inr (inl refl)))
listed IndexLast = inr (inr (inl refl))

guarded : (l : Layout) → guards (receipts_key l) (receipts l) ≡ true
guarded IndexAfterRecords = refl
guarded IndexLast = refl

module _ (l : Layout) (d : Database) (is : d.schema ≡ office_schema l) (live : IsDatabase d) where
  abbrev there : List Row
  there = d.trees (receipts_tree l)

  unique : AllByRecursion (λ row. passes Unique (office_schema l) d.trees (receipts l) row ≡ true) there
  unique = (subst (λ s. AllByRecursion (λ t. AllByRecursion (λ row. passes Unique s d.trees t row ≡ true) (d.trees t.tree)) s.tables) is (live.obeys.rules Unique)).1.1.1.0

  -- no row of the table clashes with others
  free : (row : Row) → Has there row → clashes plain receipt_key there row ≡ false
  free row has =
      let rule = all_has (λ r. passes Unique (office_schema l) d.trees (receipts l) r ≡ true) there row unique has in
      let key = test_has (λ i. not (guards i (receipts l) && clashes i.order i.columns there row)) (office_schema l).indexes (receipts_key l) rule (listed l) in
      not-true _ (rw (guarded l) at key)

  -- rows with different rowids do not agree in the key
  differs : (r s : Row) → IsTrue (is_int (rowid r)) → IsTrue (is_int (rowid s)) → Has there r → Has there s → HasOwnRowid r s → agree plain receipt_key r receipt_key s ≡ false
  differs r s int also has there_too own = go (cases_Bool (agree plain receipt_key r receipt_key s))
    where
      ids : differ (rowid r) (rowid s) ≡ true
      ids =
          let first : rowid r ≡ Int (id_in (rowid r)) = int_is (rowid r) int in
          let second : rowid s ≡ Int (id_in (rowid s)) = int_is (rowid s) also in
          rw (first, second) (differ_ids (id_in (rowid r)) (id_in (rowid s)) (rw (first, second) at own))

      go : (agree plain receipt_key r receipt_key s ≡ true) ⊎ (agree plain receipt_key r receipt_key s ≡ false) → agree plain receipt_key r receipt_key s ≡ false
      go (inl same) =
          let clash : clashes plain receipt_key there s ≡ true =
          some_from (λ o. agree plain receipt_key o receipt_key s && differ (rowid o) (rowid s)) there r has (and_from _ _ same ids) in
          absurd (let bad : true ≡ false = sym clash ∙ free s there_too in cc)
      go (inr other) = other

  abbrev AreThere : List Row → Type 0
  AreThere = AllByRecursion (λ r. IsTrue (is_int (rowid r)) × Has there r)

  -- so their receipts do not have one key
  others : (r : Row) (x : ReceiptRowOf) → IsTrue (is_int (rowid r)) × Has there r → drop 1 r ≡ stored_receipt x → (rows : List Row) (xs : List ReceiptRowOf) → AreThere rows → AllByRecursion (HasOwnRowid r) rows
      → map (drop 1) rows ≡ map stored_receipt xs → AllByRecursion (λ y. same_receipt_key x y ≡ false) xs
  others r x h e [] [] are own same = tt
  others r x h e [] (y ∷ xs) are own same = absurd cc
  others r x h e (s ∷ rows) [] are own same = absurd cc
  others r x h e (s ∷ rows) (y ∷ xs) are own same =
      let f : drop 1 s ≡ stored_receipt y = cc in
      let more : map (drop 1) rows ≡ map stored_receipt xs = cc in
      (sym (agreed r s x y e f) ∙ differs r s h.0 are.0.0 h.1 are.0.1 own.0, others r x h e rows xs are.1 own.1 more)

  apart : (rows : List Row) (xs : List ReceiptRowOf) → AreThere rows → AreApart rows → map (drop 1) rows ≡ map stored_receipt xs → IsDistinct same_receipt_key xs
  apart [] [] are own same = IsDistinct-from_apart same_receipt_key [] (λ i j x low high. absurd (omega arith))
  apart [] (x ∷ xs) are own same = absurd cc
  apart (r ∷ rows) [] are own same = absurd cc
  apart (r ∷ rows) (x ∷ xs) are own same =
      let e : drop 1 r ≡ stored_receipt x = cc in
      let more : map (drop 1) rows ≡ map stored_receipt xs = cc in
      IsDistinct-cons same_receipt_key x xs (others r x are.0 e rows xs are.1 own.0 more) (apart rows xs are.1 own.1 more)

-- no two receipts of the table have one key
pub own_keys : (l : Layout) (d : Database) (xs : List ReceiptRowOf) → d.schema ≡ office_schema l → IsDatabase d → Stores (d.trees (receipts_tree l)) (map stored_receipt xs) → IsDistinct same_receipt_key xs
own_keys l d xs is live h =
    let rows = d.trees (receipts_tree l) in
    let it = pull_back stored_receipt (map stored_receipt xs) (map (drop 1) rows) h.same xs refl in
    let are = all_both (λ r. IsTrue (is_int (rowid r))) (Has rows) (λ r. IsTrue (is_int (rowid r)) × Has rows r) (λ r int has. (int, has)) rows h.numbered (all_had rows (λ r has. has)) in
    IsDistinct-IsPermutation same_receipt_key keys_turned it.0 xs (IsPermutation-sym xs it.0 it.1) (apart l d is live rows it.0 are h.apart it.2)
