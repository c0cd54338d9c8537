-- The greatest number of a change of a zone.
use Rattle.std.proofs.Common.{◌≡◌, ℕ, suc, ◌+◌, ◌<◌, ◌≤◌, ℤ, Bool, true, false, cond, ◌||◌, List, [], ◌∷◌, map, filter, drop, length, get_or, take, slice_get, Option, Some, None, refl, sym, ap, subst, ◌∙◌, IsPermutation, bytes_eq, arith}
use Rattle.std.specs.List.{AllByRecursion, list_any}
use Rattle.std.specs.Ordering.{is_lt, int_cmp, int_eq}
use Rattle.std.specs.List.Sorted.{IsSorted}
use Rattle.std.proofs.lemmas.List.MinMax.{ranks_by}
use Rattle.std.proofs.Math.ListN.{get_or-map}
use Rattle.std.proofs.lemmas.List.{length-map}
use Rattle.std.proofs.lemmas.Cmp.{int_eq_equiv}
use Rattle.std.proofs.lemmas.List.Sorted.{sorted_far, IsPermutation-trans, IsPermutation-map, IsPermutation-sym, length_permutation, list_any-IsPermutation}
use Rattle.sqlite_value.specs.declared.keys.Collation.TheVariants.{Binary}
use Rattle.sqlite_value.specs.declared.keys.Key.{Key}
use Rattle.sqlite_value.specs.declared.value.Value.TheVariants.{Int, Null, Text}
use Rattle.sqlite_value.specs.Order.{Row, column, value_cmp}
use Rattle.sqlite_value.proofs.OrderLemmas.{value_cmp-Int, then-Equal}
use Rattle.sqlite_trees.proofs.ListLemmas.{pull_back, IsPermutation-filter, all-permutation}
use Rattle.sqlite_schema.specs.declared.command.Command.TheVariants.{Select}
use Rattle.sqlite_sql.specs.Query.{Output, output, output_cmp}
use Rattle.sqlite_sql.proofs.QueryLemmas.{key_cmp_total}
use Rattle.sqlite.specs.State.{State, Shown}
use Rattle.sqlite.proofs.Callers.{reads_as}
use Rattle.store_sql.specs.Rows.{ChangeRowOf, RowsOf}
use Rattle.store_sql.specs.declared.layout.Layout.{Layout}
use Rattle.store_sql.specs.Tables.{layout_in, changes_tree, office_schema, stored_change, stored_version}
use Rattle.store_sql.specs.Stores.{IsReadableRow}
use Rattle.store_sql.specs.Holds.{Reads}
use Rattle.store_sql.specs.Lookups.{changes_of, IsLast}
use Rattle.store_sql.proofs.Texts.{by_first, last_text, last_query, last_is, last_plain}
use Rattle.store_sql.proofs.Effects.{flat}
use Rattle.store_sql.proofs.Selections.{by_first_test, changes_of_hits}
use Rattle.store_sql.proofs.StatementLemmas.{plainly_changes}
use Rattle.store_sql.proofs.Values.{hits, filter_stored}

abbrev newest_first : Key
newest_first = record { collation = Binary; descending = true }

-- what a change is ordered by and shows
abbrev shown_number : ChangeRowOf → Output
shown_number c = (Int c.number ∷ [], Int c.number ∷ [])

-- the same of its row
abbrev shown_of : Row → Output
shown_of body = (column (Null ∷ body) 2 ∷ [], column (Null ∷ body) 2 ∷ [])

all_by_place : {X : Type 0} (P : X → Type 0) (xs : List X) → ((j : ℕ) (d : X) → j < length xs → P (get_or xs j d)) → AllByRecursion P xs
all_by_place P [] each = tt
all_by_place P (x ∷ xs) each = (each 0 x (omega arith), all_by_place P xs (λ j d low. each (suc j) d (omega arith)))

sorted_from : (l : Layout) (xs : List ChangeRowOf) → IsSorted (output_cmp (last_query l)) (map shown_number xs) → (k : ℕ) (d : ChangeRowOf) → 0 ≤ k → k + 1 < length xs
    → is_lt (output_cmp (last_query l) (shown_number (get_or xs (k + 1) d)) (shown_number (get_or xs k d))) ≡ false
sorted_from l xs up k d low high = rw (get_or-map shown_number xs (k + 1) d, get_or-map shown_number xs k d) at (up k (shown_number d) low (rw length-map high))

-- the first of the changes in order has the greatest number
first_is_last : (l : Layout) (c : ChangeRowOf) (more : List ChangeRowOf) → IsSorted (output_cmp (last_query l)) (map shown_number (c ∷ more)) → AllByRecursion (λ d. is_lt (int_cmp c.number d.number) ≡ false) (c ∷ more)
first_is_last l c more up =
    all_by_place _ (c ∷ more) (λ j d low.
    let far = sorted_far _ (ranks_by (key_cmp_total (newest_first ∷ []) 0) (λ (x : ChangeRowOf). (shown_number x).0)) (c ∷ more) (sorted_from l (c ∷ more) up) 0 j d (omega arith) low in
    sym (ap is_lt (then-Equal (value_cmp (Int c.number) (Int (get_or (c ∷ more) j d).number)) ∙ value_cmp-Int c.number (get_or (c ∷ more) j d).number)) ∙ far)

-- the first of some numbers, if there is one
abbrev pub head_of : List ℤ → Option ℤ
head_of [] = None
head_of (n ∷ rest) = Some n

nothing_in : {X : Type 0} (xs : List X) → IsPermutation xs [] → xs ≡ []
nothing_in [] p = refl
nothing_in (x ∷ xs) p = absurd (let e = length_permutation (x ∷ xs) [] p in omega arith)

same_int : (n : ℤ) → int_eq n n ≡ true
same_int n = int_eq_equiv.refl n

-- the answer, as the first of the numbers in order
last_of : (l : Layout) (all ordered : List ChangeRowOf) (numbers : List ℤ) → IsPermutation all ordered → IsSorted (output_cmp (last_query l)) (map shown_number ordered)
    → map stored_version numbers ≡ take 1 (map (λ (o : Output). o.1) (map shown_number ordered)) → IsLast all (head_of numbers)
last_of l all [] [] same up is = nothing_in all same
last_of l all [] (n ∷ rest) same up is = absurd cc
last_of l all (c ∷ more) [] same up is = absurd cc
last_of l all (c ∷ more) (n ∷ m ∷ rest) same up is = absurd cc
last_of l all (c ∷ more) (n ∷ []) same up is =
    let one : n ≡ c.number = cc in
    subst (λ k. IsLast all (Some k)) (sym one) (
      list_any-IsPermutation (λ r. int_eq r.number c.number) all (c ∷ more) same ∙ ap (λ b. b || list_any (λ r. int_eq r.number c.number) more) (same_int c.number),
      all-permutation (λ r. is_lt (int_cmp c.number r.number) ≡ false) (c ∷ more) all (IsPermutation-sym _ _ same) (first_is_last l c more up),
    )

-- what the query answers
outputs_of : (l : Layout) (params : Row) (rs : List Row) → map (output (last_query l)) (map (λ (r : Row). params ∷ r ∷ []) rs) ≡ map shown_of (map (drop 1) rs)
outputs_of l params [] = refl
outputs_of l params ([] ∷ rs) = ap (λ l. shown_of [] ∷ l) (outputs_of l params rs)
outputs_of l params ((v ∷ body) ∷ rs) = ap (λ l. shown_of body ∷ l) (outputs_of l params rs)

stored_outputs : (cs : List ChangeRowOf) → map shown_of (map stored_change cs) ≡ map shown_number cs
stored_outputs [] = refl
stored_outputs (c ∷ cs) = ap (λ l. shown_number c ∷ l) (stored_outputs cs)

part_of : (p : Row → Bool) (rows : List Row) → map (drop 1) (filter (λ r. p (drop 1 r)) rows) ≡ filter p (map (drop 1) rows)
part_of p [] = refl
part_of p (r ∷ rows) = elim (p (drop 1 r)) as (λ b. map (drop 1) (cond b (r ∷ filter (λ s. p (drop 1 s)) rows) (filter (λ s. p (drop 1 s)) rows)) ≡ cond b (drop 1 r ∷ filter p (map (drop 1) rows)) (filter p (map (drop 1) rows))) [
  | true ↦ ap (λ l. drop 1 r ∷ l) (part_of p rows)
  | false ↦ part_of p rows
]

pub selects_last : (old new : State) (origin : List ℕ) (numbers : List ℤ) (all : RowsOf) → Shown last_text (Text origin ∷ []) old new (map stored_version numbers) → Reads old.now all
    → IsLast (changes_of origin all.changes) (head_of numbers)
selects_last old new origin numbers all shown h =
    let l = layout_in old.now.trees in
    let params = Text origin ∷ [] in
    let db = old.now.trees in
    let p = hits by_first params in
    let a = (reads_as last_text params old new (office_schema l) h.schema (Select (record { lets = []; body = last_query l }) _) (last_is l).0 (last_plain l) (last_is l).1 (map stored_version numbers) shown).answer Null in
    let staged : a.staged ≡ map (λ (r : Row). params ∷ r ∷ []) (filter (λ r. p (drop 1 r)) (db (changes_tree l))) = a.grouped ∙ rw (plainly_changes l db) (flat params by_first (λ r. p (drop 1 r)) (db (changes_tree l)) (by_first_test params)) in
    let kept : a.kept ≡ map shown_of (filter p (map (drop 1) (db (changes_tree l)))) = a.distinct ∙ ap (map (output (last_query l))) staged ∙ outputs_of l params (filter (λ r. p (drop 1 r)) (db (changes_tree l))) ∙ ap (map shown_of) (part_of p (db (changes_tree l))) in
    let mine : IsPermutation (map stored_change (changes_of origin all.changes)) (filter p (map (drop 1) (db (changes_tree l)))) =
    subst (λ cs. IsPermutation cs (filter p (map (drop 1) (db (changes_tree l))))) (filter_stored stored_change p (λ r. bytes_eq r.origin origin) (changes_of_hits origin) all.changes) (IsPermutation-filter p _ _ h.tables.changes.same) in
    let shown_as : IsPermutation (map shown_number (changes_of origin all.changes)) a.ordered =
    IsPermutation-trans _ _ _ (subst (λ os. IsPermutation os (map shown_of (filter p (map (drop 1) (db (changes_tree l)))))) (stored_outputs (changes_of origin all.changes)) (IsPermutation-map shown_of _ _ mine)) (subst (λ l. IsPermutation l a.ordered) kept a.same) in
    let back = pull_back shown_number _ a.ordered shown_as (changes_of origin all.changes) refl in
    last_of l (changes_of origin all.changes) back.0 numbers back.1 (subst (IsSorted (output_cmp (last_query l))) back.2 a.sorted) (a.shown ∙ ap (λ l. take 1 (map (λ (o : Output). o.1) l)) back.2)

pub first_is : (xs : List ℤ) → slice_get xs 0 ≡ head_of xs
first_is [] = refl
first_is (n ∷ xs) = refl

-- each row of such an answer is a number
pub never_bad_numbers : (old new : State) (origin : List ℕ) (rows : List Row) (all : RowsOf) → Shown last_text (Text origin ∷ []) old new rows → Reads old.now all
    → ((ns : List ℤ) → rows ≡ map stored_version ns → AllByRecursion IsReadableRow rows → ⊥) → ⊥
never_bad_numbers old new origin rows all shown h none =
    let l = layout_in old.now.trees in
    let params = Text origin ∷ [] in
    let db = old.now.trees in
    let p = hits by_first params in
    let a = (reads_as last_text params old new (office_schema l) h.schema (Select (record { lets = []; body = last_query l }) _) (last_is l).0 (last_plain l) (last_is l).1 rows shown).answer Null in
    let staged : a.staged ≡ map (λ (r : Row). params ∷ r ∷ []) (filter (λ r. p (drop 1 r)) (db (changes_tree l))) = a.grouped ∙ rw (plainly_changes l db) (flat params by_first (λ r. p (drop 1 r)) (db (changes_tree l)) (by_first_test params)) in
    let kept : a.kept ≡ map shown_of (filter p (map (drop 1) (db (changes_tree l)))) = a.distinct ∙ ap (map (output (last_query l))) staged ∙ outputs_of l params (filter (λ r. p (drop 1 r)) (db (changes_tree l))) ∙ ap (map shown_of) (part_of p (db (changes_tree l))) in
    let mine : IsPermutation (map stored_change (changes_of origin all.changes)) (filter p (map (drop 1) (db (changes_tree l)))) =
    subst (λ cs. IsPermutation cs (filter p (map (drop 1) (db (changes_tree l))))) (filter_stored stored_change p (λ r. bytes_eq r.origin origin) (changes_of_hits origin) all.changes) (IsPermutation-filter p _ _ h.tables.changes.same) in
    let shown_as : IsPermutation (map shown_number (changes_of origin all.changes)) a.ordered =
    IsPermutation-trans _ _ _ (subst (λ os. IsPermutation os (map shown_of (filter p (map (drop 1) (db (changes_tree l)))))) (stored_outputs (changes_of origin all.changes)) (IsPermutation-map shown_of _ _ mine)) (subst (λ l. IsPermutation l a.ordered) kept a.same) in
    let back = pull_back shown_number _ a.ordered shown_as (changes_of origin all.changes) refl in
    numbers_shown back.0 rows (a.shown ∙ ap (λ l. take 1 (map (λ (o : Output). o.1) l)) back.2) none
  where
    numbers_shown : (cs : List ChangeRowOf) (rows : List Row) → rows ≡ take 1 (map (λ (o : Output). o.1) (map shown_number cs)) → ((ns : List ℤ) → rows ≡ map stored_version ns → AllByRecursion IsReadableRow rows → ⊥) → ⊥
    numbers_shown [] rows is none = none [] is (rw is tt)
    numbers_shown (c ∷ cs) rows is none = none (c.number ∷ []) is (rw is ((tt, tt), tt))
