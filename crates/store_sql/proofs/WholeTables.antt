-- All rows of a table.
use Rattle.std.proofs.Common.{◌≡◌, ℕ, zero, suc, ◌+◌, ◌<◌, ◌≤◌, ℤ, true, false, not, ◌&&◌, ◌||◌, IsTrue, List, [], ◌∷◌, ◌++◌, map, filter, drop, length, get_or, None, refl, sym, ap, add-one, subst, ◌∙◌, IsPermutation, arith}
use Rattle.std.specs.List.{AllByRecursion, IsDistinct}
use Rattle.std.specs.Ordering.{is_eq, is_lt, int_cmp, int_eq}
use Rattle.std.proofs.lemmas.Bool.{and_parts}
use Rattle.std.proofs.lemmas.Cmp.{int_eq_equiv, int_cmp_total}
use Rattle.std.proofs.lemmas.Bool.Decides.{nat_tests}
use Rattle.std.proofs.lemmas.Int.{ints}
use Rattle.std.proofs.lemmas.List.MinMax.{ranks_by}
use Rattle.std.specs.List.Sorted.{IsSorted}
use Rattle.std.proofs.lemmas.Map.Keys.{IsDistinct-IsPermutation, IsDistinct-from_apart, IsDistinct-cons, IsDistinct-head, IsDistinct-tail}
use Rattle.std.proofs.lemmas.List.Sorted.{IsPermutation-trans, IsPermutation-sym, IsPermutation-map, sorted_far}
use Rattle.sqlite_value.specs.declared.value.Value.{Value}
use Rattle.sqlite_value.specs.declared.value.Value.TheVariants.{Int, Null}
use Rattle.sqlite_value.specs.Order.{Row, column, value_cmp}
use Rattle.sqlite_value.proofs.OrderLemmas.{value_cmp-Int}
use Rattle.sqlite_trees.specs.Tree.{Trees, rowid}
use Rattle.sqlite_trees.specs.View.{is_int}
use Rattle.sqlite_trees.proofs.ListLemmas.{pull_back, all_of, all_both, all-map, all_from_map, all-permutation, IsPermutation-same}
use Rattle.sqlite_schema.specs.declared.schema.Column.{Column}
use Rattle.sqlite_schema.specs.declared.schema.Constraint.TheVariants.{Datatype, NotNull}
use Rattle.sqlite_schema.specs.declared.command.Command.TheVariants.{Select}
use Rattle.sqlite_schema.specs.Rules.{are_typed, are_present, has_computed, passes}
use Rattle.sqlite_sql.specs.Ops.{is_null}
use Rattle.sqlite_sql.specs.Program.{overlay}
use Rattle.sqlite_sql.specs.Term.{Term, eval_all}
use Rattle.sqlite.specs.Effect.{Database, IsDatabase}
use Rattle.sqlite.specs.Clock.{timed}
use Rattle.sqlite.specs.State.{State, Begins, Shown}
use Rattle.sqlite.specs.Listing.{understood, reads_listing}
use Rattle.sqlite.proofs.Callers.{IsPlain, EndsIn, command_of, begins_shown, reads_as}
use Rattle.store_sql.specs.Rows.{RowsOf}
use Rattle.store_sql.specs.declared.layout.Layout.{Layout}
use Rattle.store_sql.specs.Tables.{layout_in, receipts_tree, changes_tree, meta, zones, records, receipts, changes, meta_columns, zones_columns, records_columns, receipts_columns, changes_columns, office_schema, stored_version, stored_zone, stored_record, stored_receipt, stored_change}
use Rattle.store_sql.specs.Stores.{AreApart, AreNumbered, BeginNone, HasOwnRowid, IsOneToOne, IsReadableRow, Numbers, Stores}
use Rattle.store_sql.specs.Holds.{HasChanges, HasReceipts, HasRecords, HasZones, Reads}
use Rattle.sqlite_rules.specs.Edit.{id_in}
use Rattle.sqlite_rules.proofs.TableLemmas.{int_is}
use Rattle.store_sql.proofs.RowLemmas.{numbered_behind}
use Rattle.store_sql.proofs.PlainQueries.{unchanged_self}
use Rattle.store_sql.proofs.Selections.{read_as}
use Rattle.store_sql.proofs.Effects.{answered}
use Rattle.store_sql.proofs.StatementLemmas.{plainly, plainly_receipts, plainly_changes}
use Rattle.store_sql.proofs.Texts as the
use Rattle.store_sql.proofs.Texts.{columns_1, columns_5, columns_6, columns_7, the_rowid, select_from}
use Rattle.store_sql.proofs.Values.{equal_ints}

-- ---- a row of a table has a value for each column

abbrev AreNotNull : List Column → Type 0
AreNotNull = AllByRecursion (λ c. c.not_null ≡ true)

past_end : (row : Row) (k : ℕ) → drop k row ≡ [] → column row k ≡ Null
past_end [] k e = refl
past_end (v ∷ row) zero e = absurd cc
past_end (v ∷ row) (suc k) e = past_end row k e

one_less : (row : Row) (k : ℕ) (v : Value) (vs : Row) → drop k row ≡ v ∷ vs → drop (suc k) row ≡ vs
one_less [] k v vs e = absurd (nothing_left k e)
  where
    nothing_left : (k : ℕ) → drop k [] ≡ v ∷ vs → ⊥
    nothing_left zero e = absurd cc
    nothing_left (suc k) e = absurd cc
one_less (w ∷ row) zero v vs e = let it : row ≡ vs = cc in it
one_less (w ∷ row) (suc k) v vs e = one_less row k v vs e

-- a row of its types, with no NULL, has as many values as there are columns
full : (at : ℕ) (cs : List Column) (row vs : Row) → drop (suc at) row ≡ vs → AreNotNull cs → are_typed None at cs vs ≡ true → are_present None at cs row ≡ true → length vs ≡ length cs
full at [] row [] e nn typed present = refl
full at [] row (v ∷ vs) e nn typed present = absurd (let x = typed in cc)
full at (c ∷ cs) row [] e nn typed present = absurd (missing (and_parts _ _ present).0)
  where
    missing : (not c.not_null || not (is_null (column row (at + 1)))) ≡ true → ⊥
    missing h = let null : column row (at + 1) ≡ Null = rw add-one (past_end row (suc at) e) in let x = rw (nn.0, null) at h in absurd cc
full at (c ∷ cs) row (v ∷ vs) e nn typed present = ap suc (full (at + 1) cs row vs (rw add-one (one_less row (suc at) v vs e)) nn.1 (and_parts _ _ typed).1 (and_parts _ _ present).1)

-- ---- rowids

numbered : (rows : List Row) (ids : List ℤ) → map rowid rows ≡ map Int ids → AllByRecursion (λ r. IsTrue (is_int (rowid r))) rows
numbered [] ids is = tt
numbered (r ∷ rows) [] is = absurd cc
numbered (r ∷ rows) (n ∷ ids) is = let here : rowid r ≡ Int n = cc in (rw here refl, numbered rows ids cc)

differ : (rows : List Row) (ids : List ℤ) (r : Row) (n : ℤ) → rowid r ≡ Int n → map rowid rows ≡ map Int ids → AllByRecursion (λ m. int_eq n m ≡ false) ids → AllByRecursion (HasOwnRowid r) rows
differ [] ids r n here is all = tt
differ (s ∷ rows) [] r n here is all = absurd cc
differ (s ∷ rows) (m ∷ ids) r n here is all =
    let there : rowid s ≡ Int m = cc in
    (rw (here, there) (ap is_eq (value_cmp-Int n m) ∙ equal_ints n m ∙ all.0), differ rows ids r n here (cc) all.1)

apart : (rows : List Row) (ids : List ℤ) → map rowid rows ≡ map Int ids → IsDistinct int_eq ids → AreApart rows
apart [] ids is distinct = tt
apart (r ∷ rows) [] is distinct = absurd cc
apart (r ∷ rows) (n ∷ ids) is distinct =
    let here : rowid r ≡ Int n = cc in
    let more : map rowid rows ≡ map Int ids = cc in
    (differ rows ids r n here more (IsDistinct-head int_eq n ids distinct), apart rows ids more (IsDistinct-tail int_eq n ids distinct))

-- the rowids of rows
abbrev ids_in : List Row → List ℤ
ids_in = map (λ (r : Row). id_in (rowid r))

ids_are : (rows : List Row) → AllByRecursion (λ r. IsTrue (is_int (rowid r))) rows → map rowid rows ≡ map Int (ids_in rows)
ids_are [] h = refl
ids_are (r ∷ rows) h = let here : rowid r ≡ Int (id_in (rowid r)) = int_is (rowid r) h.0 in let more = ids_are rows h.1 in cc

own_ids : (r : Row) (rows : List Row) → IsTrue (is_int (rowid r)) → AllByRecursion (λ s. IsTrue (is_int (rowid s))) rows → AllByRecursion (HasOwnRowid r) rows → AllByRecursion (λ m. int_eq (id_in (rowid r)) m ≡ false) (ids_in rows)
own_ids r [] int h d = tt
own_ids r (s ∷ rows) int h d =
    let here : rowid r ≡ Int (id_in (rowid r)) = int_is (rowid r) int in
    let there : rowid s ≡ Int (id_in (rowid s)) = int_is (rowid s) h.0 in
    (sym (ap is_eq (value_cmp-Int (id_in (rowid r)) (id_in (rowid s))) ∙ equal_ints (id_in (rowid r)) (id_in (rowid s))) ∙ sym (ap (λ v. is_eq (value_cmp v (Int (id_in (rowid s))))) here ∙ refl) ∙ sym (ap (λ v. is_eq (value_cmp (rowid r) v)) there) ∙ d.0, own_ids r rows int h.1 d.1)

distinct_ids : (rows : List Row) → AllByRecursion (λ r. IsTrue (is_int (rowid r))) rows → AreApart rows → IsDistinct int_eq (ids_in rows)
distinct_ids [] h d = IsDistinct-from_apart int_eq [] (λ i j x low high. absurd (omega arith))
distinct_ids (r ∷ rows) h d = IsDistinct-cons int_eq (id_in (rowid r)) (ids_in rows) (own_ids r rows h.0 h.1 d.0) (distinct_ids rows h.1 d.1)

numbers_same : (xs ys : List ℤ) → map Int xs ≡ map Int ys → xs ≡ ys
numbers_same [] [] e = refl
numbers_same [] (y ∷ ys) e = absurd cc
numbers_same (x ∷ xs) [] e = absurd cc
numbers_same (x ∷ xs) (y ∷ ys) e =
    let first : x ≡ y = cc in
    let more : map Int xs ≡ map Int ys = cc in
    let same = numbers_same xs ys more in
    cc

-- rows that were read, with rowids that differ
pub stores_read : {X : Type 0} (stored : X → Row) (rows : List Row) (ids : List ℤ) (xs : List X) → AreNumbered stored rows ids xs → IsDistinct int_eq ids → Stores rows (map stored xs)
stores_read stored rows ids xs h distinct = record {
  apart = apart rows ids h.first distinct;
  numbered = numbered rows ids h.first;
  same = IsPermutation-same (map stored xs) (map (drop 1) rows) (sym h.rest);
  readable = subst (AllByRecursion IsReadableRow) h.rest h.readable;
}

-- rows that can be read as these values, in some order
record Read {X : Type 0} (stored : X → Row) (rows : List Row) (xs : List X) : Type 0 where
  pub ids : List ℤ
  pub values : List X
  pub same : IsPermutation xs values
  pub numbered : AreNumbered stored rows ids values

read_stored : {X : Type 0} (stored : X → Row) (rows : List Row) (xs : List X) → Stores rows (map stored xs) → Read stored rows xs
read_stored stored rows xs h =
    let it = pull_back stored (map stored xs) (map (drop 1) rows) h.same xs refl in record {
      ids = ids_in rows;
      values = it.0;
      same = it.1;
      numbered = record {
        first = ids_are rows h.numbered;
        rest = it.2;
        readable = all-permutation IsReadableRow (map stored xs) (map (drop 1) rows) h.same h.readable;
      };
    }

-- a row of which no value with the property is read
pub begin_none : {X : Type 0} (stored : X → Row) (P : X → Type 0) (given : List Row) (row : Row) → (IsOneToOne stored → (id : ℤ) (x : X) → Numbers stored row id x → P x → ⊥) → BeginNone stored P (given ++ row ∷ [])
begin_none stored P given row bad one tail xs stores all =
    let it = read_stored stored ((given ++ row ∷ []) ++ tail) xs stores in
    let found = numbered_behind stored P given row tail it.ids it.values it.numbered (all-permutation P xs it.values it.same all) in
    bad one found.0 found.1 found.2 found.3

all_front : {X : Type 0} (P : X → Type 0) (xs ys : List X) → AllByRecursion P (xs ++ ys) → AllByRecursion P xs
all_front P [] ys h = tt
all_front P (x ∷ xs) ys h = (h.0, all_front P xs ys h.1)

apart_front : (rows tail : List Row) → AreApart (rows ++ tail) → AreApart rows
apart_front [] tail h = tt
apart_front (r ∷ rows) tail h = (all_front (HasOwnRowid r) rows tail h.0, apart_front rows tail h.1)

-- rows of which a rowid comes twice
pub never_twice : {X : Type 0} (stored : X → Row) (P : X → Type 0) (rows : List Row) (ids : List ℤ) (ys : List X) → AreNumbered stored rows ids ys → ¬ IsDistinct int_eq ids → BeginNone stored P rows
never_twice stored P rows ids ys h twice one tail xs stores all =
    let ints = all_front (λ r. IsTrue (is_int (rowid r))) rows tail stores.numbered in
    let same = numbers_same ids (ids_in rows) (sym h.first ∙ ids_are rows ints) in
    twice (subst (IsDistinct int_eq) (sym same) (distinct_ids rows ints (apart_front rows tail stores.apart)))

-- the order of the rows of a table tells nothing
stores_permuted : (rows others xs : List Row) → IsPermutation rows others → Stores rows xs → Stores others xs
stores_permuted rows others xs p h =
    let ints = all-permutation (λ r. IsTrue (is_int (rowid r))) rows others p h.numbered in
    let distinct = IsDistinct-IsPermutation int_eq int_eq_equiv.symm (ids_in rows) (ids_in others) (IsPermutation-map (λ (r : Row). id_in (rowid r)) rows others p) (distinct_ids rows h.numbered h.apart) in
    record {
      apart = apart others (ids_in others) (ids_are others ints) distinct;
      numbered = ints;
      same = IsPermutation-trans _ _ _ h.same (IsPermutation-map (drop 1) rows others p);
      readable = h.readable;
    }

-- each row is one that is read as itself
pub each_itself : {X : Type 0} (xs : List X) → AllByRecursion (λ row. (x : X) × Unit {0} × (row ≡ x)) xs
each_itself [] = tt
each_itself (x ∷ xs) = ((x, tt, refl), each_itself xs)

-- ---- all that is shown of a table

all_rows : (rows : List Row) → filter (λ (r : Row). true) rows ≡ rows
all_rows [] = refl
all_rows (r ∷ rows) = ap (λ l. r ∷ l) (all_rows rows)

-- each row has so many columns after its rowid
abbrev AreWide : ℕ → List Row → Type 0
AreWide n = AllByRecursion (λ r. length (drop 1 r) ≡ n)

as_they_are : (columns : List Term) (n : ℕ) → ((r : Row) → length (drop 1 r) ≡ n → eval_all columns ([] ∷ r ∷ []) ≡ r) → (rows : List Row) → AreWide n rows → map (λ (r : Row). eval_all columns ([] ∷ r ∷ [])) rows ≡ rows
as_they_are columns n whole [] wide = refl
as_they_are columns n whole (r ∷ rows) wide = rw (whole r wide.0, as_they_are columns n whole rows wide.1) refl

-- a text that shows the rowids of a table and all its columns, n of them
module _ (l : Layout) (sql : List ℕ) (tree : ℕ) (columns : List Term) (n : ℕ) (names : List (List ℕ)) (plain_tree : (db : Trees) → overlay db [] tree ≡ db tree)
    (is : (command_of (understood (office_schema l) sql) ≡ Select (record { lets = []; body = select_from tree [] columns }) names) × (reads_listing (office_schema l) sql ≡ false))
    (plain : IsPlain (understood (office_schema l) sql)) (whole : (r : Row) → length (drop 1 r) ≡ n → eval_all columns ([] ∷ r ∷ []) ≡ r) where
  rows_shown : (begun mid : State) (rows : List Row) → begun.now.schema ≡ office_schema l → Shown sql [] begun mid rows → AreWide n (begun.now.trees tree) → IsPermutation (begun.now.trees tree) rows
  rows_shown begun mid rows schema shown wide =
      let a = (reads_as sql [] begun mid (office_schema l) schema (Select (record { lets = []; body = select_from tree [] columns }) names) is.0 plain is.1 rows shown).answer Null in
      let it = answered tree plain_tree [] columns (λ r. true) [] begun.now.trees rows (λ r. refl) a in
      subst (λ rs. IsPermutation rs rows) (ap (map (λ (r : Row). eval_all columns ([] ∷ r ∷ []))) (all_rows (begun.now.trees tree)) ∙ as_they_are columns n whole (begun.now.trees tree) wide) it

  stores_all : (begun mid : State) (rows xs : List Row) → begun.now.schema ≡ office_schema l → AreWide n (begun.now.trees tree) → Shown sql [] begun mid rows → Stores rows xs → Stores (begun.now.trees tree) xs
  stores_all begun mid rows xs schema wide shown h = stores_permuted rows (begun.now.trees tree) xs (IsPermutation-sym _ _ (rows_shown begun mid rows schema shown wide)) h

  -- what is shown of a table of such rows is such rows
  shows_all : {X : Type 0} (stored : X → Row) → ((x : X) → length (stored x) ≡ n) → (begun mid : State) (rows : List Row) (xs : List X) → begun.now.schema ≡ office_schema l → Stores (begun.now.trees tree) (map stored xs) → Shown sql [] begun mid rows
      → Stores rows (map stored xs)
  shows_all stored width begun mid rows xs schema h shown =
      let db = begun.now.trees tree in
      let wide = all_from_map (λ v. length v ≡ n) (drop 1) db (all-permutation (λ v. length v ≡ n) (map stored xs) (map (drop 1) db) h.same (all-map (λ v. length v ≡ n) stored xs (all_of (λ x. length (stored x) ≡ n) width xs))) in
      stores_permuted db rows (map stored xs) (rows_shown begun mid rows schema shown wide) h

  -- rows that begin an answer begin such rows
  begins_all : {X : Type 0} (stored : X → Row) → ((x : X) → length (stored x) ≡ n) → (s : State) (rows : List Row) (xs : List X) → s.now.schema ≡ office_schema l → IsTrue s.is_open → Stores (s.now.trees tree) (map stored xs) → Begins sql [] s rows
      → (tail : List Row) × Stores (rows ++ tail) (map stored xs)
  begins_all stored width s rows xs schema up h begins =
      let whole = begins_shown sql [] s s rows begins (unchanged_self s up)
      (λ c db it source.
      let known : c.command ≡ Select (record { lets = []; body = select_from tree [] columns }) names = sym (ap command_of it.is) ∙ ap (λ k. command_of (understood k sql)) schema ∙ is.0 in
      subst (λ k. EndsIn k db (timed [] c.formats it.now)) (sym known) tt) in
      (whole.0, shows_all stored width s s (rows ++ whole.0) xs schema h whole.1)

whole_1 : (r : Row) → length (drop 1 r) ≡ 1 → eval_all (the_rowid ++ columns_1) ([] ∷ r ∷ []) ≡ r
whole_1 (v ∷ a ∷ []) len = refl
whole_1 _ len = absurd (omega arith)

whole_5 : (r : Row) → length (drop 1 r) ≡ 5 → eval_all (the_rowid ++ columns_5) ([] ∷ r ∷ []) ≡ r
whole_5 (v ∷ a ∷ b ∷ c ∷ d ∷ e ∷ []) len = refl
whole_5 _ len = absurd (omega arith)

whole_6 : (r : Row) → length (drop 1 r) ≡ 6 → eval_all (the_rowid ++ columns_6) ([] ∷ r ∷ []) ≡ r
whole_6 (v ∷ a ∷ b ∷ c ∷ d ∷ e ∷ f ∷ []) len = refl
whole_6 _ len = absurd (omega arith)

whole_7 : (r : Row) → length (drop 1 r) ≡ 7 → eval_all (the_rowid ++ columns_7) ([] ∷ r ∷ []) ≡ r
whole_7 (v ∷ a ∷ b ∷ c ∷ d ∷ e ∷ f ∷ g ∷ []) len = refl
whole_7 _ len = absurd (omega arith)

-- the rows of `meta` have their columns
wide_meta : (l : Layout) (d : Database) → d.schema ≡ office_schema l → IsDatabase d → AreWide 1 (d.trees 0)
wide_meta l d is h =
    let typed = (subst (λ s. AllByRecursion (λ t. AllByRecursion (λ row. passes Datatype s d.trees t row ≡ true) (d.trees t.tree)) s.tables) is (h.obeys.rules Datatype)).0 in
    let present = (subst (λ s. AllByRecursion (λ t. AllByRecursion (λ row. passes NotNull s d.trees t row ≡ true) (d.trees t.tree)) s.tables) is (h.obeys.rules NotNull)).0 in
    all_both (λ row. (are_typed None 0 meta_columns (drop 1 row) && has_computed meta row) ≡ true) (λ row. are_present None 0 meta_columns row ≡ true) (λ (r : Row). length (drop 1 r) ≡ 1)
    (λ row p q. full 0 meta_columns row (drop 1 row) refl (refl, tt) (and_parts _ _ p).0 q) (d.trees 0) typed present

pub all_meta : (l : Layout) (begun mid : State) (rows xs : List Row) → begun.now.schema ≡ office_schema l → IsDatabase begun.now → Shown the.all_meta_text [] begun mid rows → Stores rows xs → Stores (begun.now.trees 0) xs
all_meta l begun mid rows xs is live shown h =
    stores_all l the.all_meta_text 0 (the_rowid ++ columns_1) 1 _ (plainly 0 refl) (the.all_meta_is l) (the.all_meta_plain l) whole_1 begun mid rows xs is (wide_meta l begun.now is live) shown h

pub begins_all_meta : (s : State) (rows : List Row) (all : RowsOf) → Reads s.now all → IsTrue s.is_open → Begins the.all_meta_text [] s rows → (tail : List Row) × Stores (rows ++ tail) (map stored_version all.versions)
begins_all_meta s rows all h up begins =
    let l = layout_in s.now.trees in
    begins_all l the.all_meta_text 0 (the_rowid ++ columns_1) 1 _ (plainly 0 refl) (the.all_meta_is l) (the.all_meta_plain l) whole_1 stored_version (λ x. refl) s rows all.versions h.schema up h.tables.versions begins

-- the rows of `zones` have their columns
wide_zones : (l : Layout) (d : Database) → d.schema ≡ office_schema l → IsDatabase d → AreWide 1 (d.trees 1)
wide_zones l d is h =
    let typed = (subst (λ s. AllByRecursion (λ t. AllByRecursion (λ row. passes Datatype s d.trees t row ≡ true) (d.trees t.tree)) s.tables) is (h.obeys.rules Datatype)).1.0 in
    let present = (subst (λ s. AllByRecursion (λ t. AllByRecursion (λ row. passes NotNull s d.trees t row ≡ true) (d.trees t.tree)) s.tables) is (h.obeys.rules NotNull)).1.0 in
    all_both (λ row. (are_typed None 0 zones_columns (drop 1 row) && has_computed zones row) ≡ true) (λ row. are_present None 0 zones_columns row ≡ true) (λ (r : Row). length (drop 1 r) ≡ 1)
    (λ row p q. full 0 zones_columns row (drop 1 row) refl (refl, tt) (and_parts _ _ p).0 q) (d.trees 1) typed present

pub all_zones : (l : Layout) (begun mid : State) (rows xs : List Row) → begun.now.schema ≡ office_schema l → IsDatabase begun.now → Shown the.all_zones_text [] begun mid rows → Stores rows xs → Stores (begun.now.trees 1) xs
all_zones l begun mid rows xs is live shown h =
    stores_all l the.all_zones_text 1 (the_rowid ++ columns_1) 1 _ (plainly 1 refl) (the.all_zones_is l) (the.all_zones_plain l) whole_1 begun mid rows xs is (wide_zones l begun.now is live) shown h

pub begins_all_zones : (s : State) (rows : List Row) (all : RowsOf) → Reads s.now all → IsTrue s.is_open → Begins the.all_zones_text [] s rows → (tail : List Row) × Stores (rows ++ tail) (map stored_zone all.zones)
begins_all_zones s rows all h up begins =
    let l = layout_in s.now.trees in
    begins_all l the.all_zones_text 1 (the_rowid ++ columns_1) 1 _ (plainly 1 refl) (the.all_zones_is l) (the.all_zones_plain l) whole_1 stored_zone (λ x. refl) s rows all.zones h.schema up h.tables.zones begins

-- the rows of `records` have their columns
wide_records : (l : Layout) (d : Database) → d.schema ≡ office_schema l → IsDatabase d → AreWide 6 (d.trees 3)
wide_records l d is h =
    let typed = (subst (λ s. AllByRecursion (λ t. AllByRecursion (λ row. passes Datatype s d.trees t row ≡ true) (d.trees t.tree)) s.tables) is (h.obeys.rules Datatype)).1.1.0 in
    let present = (subst (λ s. AllByRecursion (λ t. AllByRecursion (λ row. passes NotNull s d.trees t row ≡ true) (d.trees t.tree)) s.tables) is (h.obeys.rules NotNull)).1.1.0 in
    all_both (λ row. (are_typed None 0 records_columns (drop 1 row) && has_computed records row) ≡ true) (λ row. are_present None 0 records_columns row ≡ true) (λ (r : Row). length (drop 1 r) ≡ 6)
    (λ row p q. full 0 records_columns row (drop 1 row) refl (refl, (refl, (refl, (refl, (refl, (refl, tt)))))) (and_parts _ _ p).0 q) (d.trees 3) typed present

pub all_records : (l : Layout) (begun mid : State) (rows xs : List Row) → begun.now.schema ≡ office_schema l → IsDatabase begun.now → Shown the.all_records_text [] begun mid rows → Stores rows xs → Stores (begun.now.trees 3) xs
all_records l begun mid rows xs is live shown h =
    stores_all l the.all_records_text 3 (the_rowid ++ columns_6) 6 _ (plainly 3 refl) (the.all_records_is l) (the.all_records_plain l) whole_6 begun mid rows xs is (wide_records l begun.now is live) shown h

pub begins_all_records : (s : State) (rows : List Row) (all : RowsOf) → Reads s.now all → IsTrue s.is_open → Begins the.all_records_text [] s rows → (tail : List Row) × Stores (rows ++ tail) (map stored_record all.records)
begins_all_records s rows all h up begins =
    let l = layout_in s.now.trees in
    begins_all l the.all_records_text 3 (the_rowid ++ columns_6) 6 _ (plainly 3 refl) (the.all_records_is l) (the.all_records_plain l) whole_6 stored_record (λ x. refl) s rows all.records h.schema up h.tables.records begins

-- the rows of `receipts` have their columns
wide_receipts : (l : Layout) (d : Database) → d.schema ≡ office_schema l → IsDatabase d → AreWide 5 (d.trees (receipts_tree l))
wide_receipts l d is h =
    let typed = (subst (λ s. AllByRecursion (λ t. AllByRecursion (λ row. passes Datatype s d.trees t row ≡ true) (d.trees t.tree)) s.tables) is (h.obeys.rules Datatype)).1.1.1.0 in
    let present = (subst (λ s. AllByRecursion (λ t. AllByRecursion (λ row. passes NotNull s d.trees t row ≡ true) (d.trees t.tree)) s.tables) is (h.obeys.rules NotNull)).1.1.1.0 in
    all_both (λ row. (are_typed None 0 receipts_columns (drop 1 row) && has_computed (receipts l) row) ≡ true) (λ row. are_present None 0 receipts_columns row ≡ true) (λ (r : Row). length (drop 1 r) ≡ 5)
    (λ row p q. full 0 receipts_columns row (drop 1 row) refl (refl, (refl, (refl, (refl, (refl, tt))))) (and_parts _ _ p).0 q) (d.trees (receipts_tree l)) typed present

pub all_receipts : (l : Layout) (begun mid : State) (rows xs : List Row) → begun.now.schema ≡ office_schema l → IsDatabase begun.now → Shown the.all_receipts_text [] begun mid rows → Stores rows xs → Stores (begun.now.trees (receipts_tree l)) xs
all_receipts l begun mid rows xs is live shown h =
    stores_all l the.all_receipts_text (receipts_tree l) (the_rowid ++ columns_5) 5 _ (plainly_receipts l) (the.all_receipts_is l) (the.all_receipts_plain l) whole_5 begun mid rows xs is (wide_receipts l begun.now is live) shown h

pub begins_all_receipts : (s : State) (rows : List Row) (all : RowsOf) → Reads s.now all → IsTrue s.is_open → Begins the.all_receipts_text [] s rows → (tail : List Row) × Stores (rows ++ tail) (map stored_receipt all.receipts)
begins_all_receipts s rows all h up begins =
    let l = layout_in s.now.trees in
    begins_all l the.all_receipts_text (receipts_tree l) (the_rowid ++ columns_5) 5 _ (plainly_receipts l) (the.all_receipts_is l) (the.all_receipts_plain l) whole_5 stored_receipt (λ x. refl) s rows all.receipts h.schema up h.tables.receipts begins

-- the rows of `changes` have their columns
wide_changes : (l : Layout) (d : Database) → d.schema ≡ office_schema l → IsDatabase d → AreWide 7 (d.trees (changes_tree l))
wide_changes l d is h =
    let typed = (subst (λ s. AllByRecursion (λ t. AllByRecursion (λ row. passes Datatype s d.trees t row ≡ true) (d.trees t.tree)) s.tables) is (h.obeys.rules Datatype)).1.1.1.1.0 in
    let present = (subst (λ s. AllByRecursion (λ t. AllByRecursion (λ row. passes NotNull s d.trees t row ≡ true) (d.trees t.tree)) s.tables) is (h.obeys.rules NotNull)).1.1.1.1.0 in
    all_both (λ row. (are_typed None 0 changes_columns (drop 1 row) && has_computed (changes l) row) ≡ true) (λ row. are_present None 0 changes_columns row ≡ true) (λ (r : Row). length (drop 1 r) ≡ 7)
    (λ row p q. full 0 changes_columns row (drop 1 row) refl (refl, (refl, (refl, (refl, (refl, (refl, (refl, tt))))))) (and_parts _ _ p).0 q) (d.trees (changes_tree l)) typed present

pub all_changes : (l : Layout) (begun mid : State) (rows xs : List Row) → begun.now.schema ≡ office_schema l → IsDatabase begun.now → Shown the.all_changes_text [] begun mid rows → Stores rows xs → Stores (begun.now.trees (changes_tree l)) xs
all_changes l begun mid rows xs is live shown h =
    stores_all l the.all_changes_text (changes_tree l) (the_rowid ++ columns_7) 7 _ (plainly_changes l) (the.all_changes_is l) (the.all_changes_plain l) whole_7 begun mid rows xs is (wide_changes l begun.now is live) shown h

pub begins_all_changes : (s : State) (rows : List Row) (all : RowsOf) → Reads s.now all → IsTrue s.is_open → Begins the.all_changes_text [] s rows → (tail : List Row) × Stores (rows ++ tail) (map stored_change all.changes)
begins_all_changes s rows all h up begins =
    let l = layout_in s.now.trees in
    begins_all l the.all_changes_text (changes_tree l) (the_rowid ++ columns_7) 7 _ (plainly_changes l) (the.all_changes_is l) (the.all_changes_plain l) whole_7 stored_change (λ x. refl) s rows all.changes h.schema up h.tables.changes begins

-- ---- numbers in order

-- numbers in order of which neighbours differ are distinct
pub apart_if_rising : (ns : List ℤ) → IsSorted int_cmp ns → ((k : ℕ) (d : ℤ) → k + 1 < length ns → int_eq (get_or ns k d) (get_or ns (k + 1) d) ≡ false) → IsDistinct int_eq ns
apart_if_rising ns up differs =
    IsDistinct-from_apart int_eq ns (λ i j d low high.
    let far = sorted_far (λ a b. is_lt (int_cmp a b)) (ranks_by int_cmp_total (λ (n : ℤ). n)) ns up (i + 1) j d (omega arith) high in
    let near = sorted_far (λ a b. is_lt (int_cmp a b)) (ranks_by int_cmp_total (λ (n : ℤ). n)) ns up i (i + 1) d (omega arith) (omega arith) in
    above (get_or ns i d) (get_or ns (i + 1) d) (get_or ns j d) near (differs i d (omega arith)) far)
  where
    above : (a b c : ℤ) → is_lt (int_cmp b a) ≡ false → int_eq a b ≡ false → is_lt (int_cmp c b) ≡ false → int_eq a c ≡ false
    above a b c p q r = grind (arith, ints, nat_tests)

-- ---- a few of them

pub five : {X : Type 0} (xs : List X) (a b c d e : X) → 5 ≤ length xs → length xs < 6 → a ≡ get_or xs 0 a → b ≡ get_or xs 1 b → c ≡ get_or xs 2 c → d ≡ get_or xs 3 d → e ≡ get_or xs 4 e → xs ≡ a ∷ b ∷ c ∷ d ∷ e ∷ []
five (u ∷ v ∷ w ∷ x ∷ y ∷ []) a b c d e low high p q r s t = cc
five _ a b c d e low high p q r s t = absurd (omega arith)

pub six : {X : Type 0} (xs : List X) (a b c d e f : X) → 6 ≤ length xs → length xs < 7 → a ≡ get_or xs 0 a → b ≡ get_or xs 1 b → c ≡ get_or xs 2 c → d ≡ get_or xs 3 d → e ≡ get_or xs 4 e → f ≡ get_or xs 5 f
    → xs ≡ a ∷ b ∷ c ∷ d ∷ e ∷ f ∷ []
six (u ∷ v ∷ w ∷ x ∷ y ∷ z ∷ []) a b c d e f low high p q r s t o = cc
six _ a b c d e f low high p q r s t o = absurd (omega arith)

pub seven : {X : Type 0} (xs : List X) (a b c d e f h : X) → 7 ≤ length xs → length xs < 8 → a ≡ get_or xs 0 a → b ≡ get_or xs 1 b → c ≡ get_or xs 2 c → d ≡ get_or xs 3 d → e ≡ get_or xs 4 e → f ≡ get_or xs 5 f → h ≡ get_or xs 6 h
    → xs ≡ a ∷ b ∷ c ∷ d ∷ e ∷ f ∷ h ∷ []
seven (u ∷ v ∷ w ∷ x ∷ y ∷ z ∷ k ∷ []) a b c d e f h low high p q r s t o n = cc
seven _ a b c d e f h low high p q r s t o n = absurd (omega arith)

-- two lists that a table stores are the same in some order
pub stored_same : {X : Type 0} (stored : X → Row) → ((x y : X) → stored x ≡ stored y → x ≡ y) → (rows : List Row) (xs ys : List X) → Stores rows (map stored xs) → Stores rows (map stored ys) → IsPermutation xs ys
stored_same stored one rows xs ys a b = read_as stored one xs ys (IsPermutation-trans _ _ _ a.same (IsPermutation-sym _ _ b.same))

-- each table has its rows
pub reads_all : (db : Database) (rows : RowsOf) → Stores (db.trees 0) (map stored_version rows.versions) → HasZones db rows.zones → HasRecords db rows.records → HasReceipts db rows.receipts → HasChanges db rows.changes → Reads db rows
reads_all db rows versions zones records receipts changes = record {
  schema = zones.0;
  tables = record { versions = versions; zones = zones.1; records = records.1; receipts = receipts.1; changes = changes.1 };
}
