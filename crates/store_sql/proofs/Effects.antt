-- What one INSERT, UPDATE, DELETE or SELECT does to a table of the office.
use Rattle.std.proofs.Common.{◌≡◌, ◌≢◌, ◌⊎◌, inl, inr, IsTrue, ℕ, ℤ, nat_lt, ◌/◌, Bool, true, false, not, cond, List, [], ◌∷◌, ◌++◌, map, filter, drop, flat_map, length, slice_get, Option, Some, None, unwrap_or, Ok, Err, Result, refl, sym, ap, subst, ◌∙◌, IsPermutation, append-nil, append_assoc}
use Rattle.std.specs.List.{AllByRecursion, list_all}
use Rattle.std.proofs.lemmas.Bool.{and_parts, not-true}
use Rattle.std.proofs.lemmas.List.Sorted.{IsPermutation-trans, IsPermutation-map}
use Rattle.sqlite_value.specs.declared.value.Value.TheVariants.{Int, Null}
use Rattle.sqlite_value.specs.Order.{Row}
use Rattle.sqlite_trees.specs.Tree.{Trees, rowid, put_row}
use Rattle.sqlite_trees.proofs.ListLemmas.{IsPermutation-filter}
use Rattle.sqlite_schema.specs.declared.schema.Column.{Column}
use Rattle.sqlite_schema.specs.declared.schema.Table.{Table}
use Rattle.sqlite_schema.specs.declared.command.Command.TheVariants.{Insert, Update, Select, Delete}
use Rattle.sqlite_schema.specs.declared.command.Source.TheVariants.{Values}
use Rattle.sqlite_rules.specs.declared.error.Rowids.TheVariants.{Chosen, Given}
use Rattle.sqlite_rules.specs.Edit.{Edit, Applies, id_in, are_fresh, is_taken, edit_of, next_rowid, numbered, put_all, without_all, IsNoIndex}
use Rattle.sqlite_rules.specs.Lists.{Has}
use Rattle.sqlite_rules.proofs.ListLemmas.{some_from}
use Rattle.sqlite_rules.proofs.TableLemmas.{int_is}
use Rattle.sqlite_schema.specs.Rules.{Fits}
use Rattle.sqlite_trees.specs.View.{is_int}
use Rattle.sqlite_trees.proofs.ListLemmas.{all-permutation, all-filter}
use Rattle.sqlite_value.specs.Order.{value_cmp}
use Rattle.sqlite_value.proofs.OrderLemmas.{value_cmp_total}
use Rattle.std.proofs.lemmas.Cmp.{tied_itself}
use Rattle.std.specs.Ordering.{is_eq}
use Rattle.sqlite_rules.specs.Cast.{cast_row}
use Rattle.sqlite_rules.specs.Calls.{ids_of}
use Rattle.sqlite_sql.specs.Term.{Term, col, holds, eval_all}
use Rattle.sqlite_sql.specs.Query.{Query, IsAnswer, Output, output}
use Rattle.sqlite_sql.specs.Program.{overlay}
use Rattle.sqlite.specs.Listing.{understood, reads_listing}
use Rattle.sqlite.specs.Effect.{Database, value_rows}
use Rattle.sqlite.specs.Does.{Tally, Does}
use Rattle.sqlite.specs.Rows.{Written}
use Rattle.sqlite.specs.State.{State, mode_of, Shows, Executes, Shown}
use Rattle.sqlite.proofs.Callers.{IsPlain, command_of, statement_of, runs_as, reads_as, one_step}
use Rattle.sqlite.specs.declared.run.Mode.{Mode}
use Rattle.sqlite_schema.specs.declared.schema.Keys.TheVariants.{Enforced}
use Rattle.store_sql.specs.declared.layout.Layout.{Layout}
use Rattle.store_sql.specs.Tables.{keyed, office_schema}
use Rattle.store_sql.specs.Stores.{IsReadableRow, Stores}
use Rattle.store_sql.proofs.Texts.{select_from}
use Rattle.store_sql.proofs.Tree.{stores_put, stores_without, has_new, has_put}
use Rattle.store_sql.proofs.Values.{stores_last}

-- a part that gave a value did not stop on the way
pub went : {B E R : Type 0} {b : B} {Stops : E → Type 0} → ((stop : E) × Stops stop × (Ok b ≡ Err stop)) ⊎ R → R
went (inl stopped) = absurd (let e = stopped.2 in cc)
went (inr on) = on

pub same_value : {B E : Type 0} {a b : B} → ◌≡◌ {A = Result B E} (Ok a) (Ok b) → a ≡ b
same_value e = cc

-- one table has other rows, and nothing else differs
pub record Rewrites (l : Layout) (old new : State) (tree : ℕ) : Type 0 where
  pub schema : new.now.schema ≡ office_schema l
  pub others : (t : ℕ) → t ≢ tree → IsNoIndex (office_schema l) t → new.now.trees t ≡ old.now.trees t
  pub shown : Shows old new new.now (cond old.in_transaction old.committed new.now) old.in_transaction

abbrev the_mode : Mode
the_mode = record { keys = Enforced; in_doubt = false; may_wait = false }

-- a step of one edit, and what it leaves
record Stepped (l : Layout) (db : Trees) (edit : Edit) (after : Database) : Type 0 where
  next : Trees
  applied : Applies (office_schema l) Enforced db edit next
  is : after ≡ record { schema = office_schema l; trees = next }

pub flat : (params : Row) (filters : List Term) (p : Row → Bool) (rows : List Row) → ((r : Row) → list_all (holds (params ∷ r ∷ [])) filters ≡ p r)
    → flat_map (λ (r : Row). cond (list_all (holds (params ∷ r ∷ [])) filters) ((params ∷ r ∷ []) ∷ []) []) rows ≡ map (λ (r : Row). params ∷ r ∷ []) (filter p rows)
flat params filters p [] test = refl
flat params filters p (r ∷ rows) test = rw (test r, flat params filters p rows test) (elim (p r) as (λ b. (cond b ((params ∷ r ∷ []) ∷ []) [] ++ map (λ (s : Row). params ∷ s ∷ []) (filter p rows)) ≡ map (λ (s : Row). params ∷ s ∷ []) (cond b (r ∷ filter p rows) (filter p rows))) [
  | true ↦ refl
  | false ↦ refl
])

-- what a plain SELECT from one table answers, in some order
pub answered : (tree : ℕ) → ((db : Trees) → overlay db [] tree ≡ db tree) → (filters project : List Term) (p : Row → Bool) (params : Row) (db : Trees) (rows : List Row) → ((r : Row) → list_all (holds (params ∷ r ∷ [])) filters ≡ p r)
    → IsAnswer (select_from tree filters project) (overlay db []) params rows
    → IsPermutation (map (λ (r : Row). eval_all project (params ∷ r ∷ [])) (filter p (db tree))) rows
answered tree plainly filters project p params db rows test a =
    let q = select_from tree filters project in
    let staged : a.staged ≡ map (λ (r : Row). params ∷ r ∷ []) (filter p (db tree)) = a.grouped ∙ rw (plainly db) (flat params filters p (db tree) test) in
    let kept : a.kept ≡ map (output q) (map (λ (r : Row). params ∷ r ∷ []) (filter p (db tree))) = a.distinct ∙ ap (map (output q)) staged in
    let same = IsPermutation-map (λ (o : Output). o.1) _ _ a.same in
    let shown : rows ≡ map (λ (o : Output). o.1) a.ordered = a.shown in
    subst (IsPermutation (map (λ (r : Row). eval_all project (params ∷ r ∷ [])) (filter p (db tree)))) (sym shown) (subst (λ l. IsPermutation l (map (λ (o : Output). o.1) a.ordered)) (ap (map (λ (o : Output). o.1)) kept ∙ outputs (filter p (db tree))) same)
  where
    outputs : (rs : List Row) → map (λ (o : Output). o.1) (map (output (select_from tree filters project)) (map (λ (r : Row). params ∷ r ∷ []) rs)) ≡ map (λ (r : Row). eval_all project (params ∷ r ∷ [])) rs
    outputs [] = refl
    outputs (r ∷ rs) = ap (λ l. eval_all project (params ∷ r ∷ []) ∷ l) (outputs rs)

-- rows of a table that chooses their rowids
abbrev given_rowids : {X : Type 0} → (X → Row) → List Row → List X → List Row
given_rowids f rows all = numbered Chosen rows (map (λ x. Null ∷ f x) all)

puts : {X : Type 0} (f : X → Row) (rows : List Row) (ys all : List X) → AllByRecursion (λ x. IsReadableRow (f x)) all → are_fresh rows (given_rowids f rows all) ≡ true
    → Stores rows (map f ys) → Stores (put_all rows (given_rowids f rows all)) (map f (ys ++ all))
puts f rows ys [] readable fresh h = subst (λ l. Stores rows (map f l)) (sym (append-nil ys)) h
puts f rows ys (x ∷ all) readable fresh h =
    let new : Row = Int (next_rowid rows) ∷ f x in
    let parts = and_parts _ _ fresh in
    let more = stores_last f ys x (put_row new rows) (stores_put rows (map f ys) new h readable.0 refl (not-true _ parts.0)) in
    subst (λ l. Stores (put_all (put_row new rows) (given_rowids f (put_row new rows) all)) (map f l)) (append_assoc ys (x ∷ []) all) (puts f (put_row new rows) (ys ++ x ∷ []) all readable.1 parts.1 more)

-- ---- one row in the place of those that pass

-- an answer of rowids, each with the row that comes in its place
abbrev AreReplaced : Row → List Row → Type 0
AreReplaced x = AllByRecursion (λ y. (id : ℤ) × (y ≡ Int id ∷ Int id ∷ x))

all_replaced : (x : Row) (rows : List Row) → AllByRecursion (λ r. IsTrue (is_int (rowid r))) rows → AreReplaced x (map (λ (r : Row). rowid r ∷ rowid r ∷ x) rows)
all_replaced x [] ints = tt
all_replaced x (r ∷ rows) ints = let is = int_is (rowid r) ints.0 in ((id_in (rowid r), rw is refl), all_replaced x rows ints.1)

-- a row stays where others come whose rowids are free
has_all : (news rows : List Row) (r : Row) → are_fresh rows news ≡ true → Has rows r → Has (put_all rows news) r
has_all [] rows r fresh h = h
has_all (new ∷ news) rows r fresh h = let parts = and_parts _ _ fresh in has_all news (put_row new rows) r parts.1 (has_put new rows r (not-true _ parts.0) h)

module _ (l : Layout) (name : List ℕ) (tree : ℕ) (columns : List Column) (key : List ℕ) (at : ℕ) (place : slice_get (office_schema l).tables at ≡ Some (keyed name tree columns key)) (plainly : (db : Trees) → overlay db [] tree ≡ db tree) where
  abbrev table : Table
  table = keyed name tree columns key

  insert_does : (limit : Option ℕ) (params : Row) (db : Trees) (text : List ℕ) (terms : List Term) (width : ℕ) (tally : Tally) (after : Database)
      → Does limit the_mode params (record { schema = office_schema l; trees = db }) text None (Insert at (Values terms width)) (Ok (tally, after))
      → Stepped l db (edit_of db table [] Chosen 0 (value_rows (params ++ []) width (length terms / width) terms)) after
  insert_does limit params db text terms width tally after does =
      let done = went (rw place at does) in
      let now = ap (λ (p : Tally × Database). p.1) (same_value (went (went done.2).2).2) in
      let given = went done.1 in
      let written = went (went given.2).2 in
      let counted = went written.2 in
      let trees : done.0.trees ≡ written.0 = ap (λ (it : Written). it.trees) (same_value counted.2) ∙ same_value counted.1 in
      let step = one_step (office_schema l) Enforced db written.0 (edit_of db table [] Chosen 0 given.0) refl written.1 in
      record {
        next = written.0;
        applied = subst (λ all. Applies (office_schema l) Enforced db (edit_of db table [] Chosen 0 all) written.0) given.1.1 step;
        is = now ∙ ap (λ (t : Trees). let d : Database = record { schema = office_schema l; trees = t } in d) trees;
      }

  delete_does : (limit : Option ℕ) (params : Row) (db : Trees) (text : List ℕ) (q : Query) (tally : Tally) (after : Database)
      → Does limit the_mode params (record { schema = office_schema l; trees = db }) text None (Delete at (record { lets = []; body = q })) (Ok (tally, after))
      → (rows : List Row) × IsAnswer q (overlay db []) params rows × Stepped l db (edit_of db table (ids_of rows) Given 0 []) after
  delete_does limit params db text q tally after does =
      let done = went (rw place at does) in
      let now = ap (λ (p : Tally × Database). p.1) (same_value (went (went done.2).2).2) in
      let asked = went done.1 in
      let written = went asked.2 in
      let trees : done.0.trees ≡ written.0 = ap (λ (it : Written). it.trees) (same_value written.2) in (
        asked.0,
        asked.1.answer Null,
        record {
          next = written.0;
          applied = one_step (office_schema l) Enforced db written.0 (edit_of db table (ids_of asked.0) Given 0 []) refl written.1;
          is = now ∙ ap (λ (t : Trees). let d : Database = record { schema = office_schema l; trees = t } in d) trees;
        },
      )

  update_does : (limit : Option ℕ) (params : Row) (db : Trees) (text : List ℕ) (q : Query) (tally : Tally) (after : Database)
      → Does limit the_mode params (record { schema = office_schema l; trees = db }) text None (Update at (record { lets = []; body = q })) (Ok (tally, after))
      → (rows : List Row) × IsAnswer q (overlay db []) params rows × Stepped l db (edit_of db table (ids_of rows) Given 1 rows) after × (tally.rows ≡ Some (length (edit_of db table (ids_of rows) Given 1 rows).news))
  update_does limit params db text q tally after does =
      let done = went (rw place at does) in
      let last = same_value (went (went done.2).2).2 in
      let now = ap (λ (p : Tally × Database). p.1) last in
      let asked = went done.1 in
      let written = went asked.2 in
      let same = same_value written.2 in
      let trees : done.0.trees ≡ written.0 = ap (λ (it : Written). it.trees) same in (
        asked.0,
        asked.1.answer Null,
        record {
          next = written.0;
          applied = one_step (office_schema l) Enforced db written.0 (edit_of db table (ids_of asked.0) Given 1 asked.0) refl written.1;
          is = now ∙ ap (λ (t : Trees). let d : Database = record { schema = office_schema l; trees = t } in d) trees;
        },
        ap (λ (p : Tally × Database). p.0.rows) last ∙ ap (λ (it : Written). Some (length it.rows)) same,
      )

  put_each : {X : Type 0} (db : Trees) (f : X → Row) (ys all : List X) (after : Database) → AllByRecursion (λ x. IsReadableRow (f x)) all → ((x : X) → cast_row table (Null ∷ f x) ≡ Null ∷ f x)
      → Stepped l db (edit_of db table [] Chosen 0 (map (λ x. Null ∷ f x) all)) after → Stores (db tree) (map f ys) → Stores (after.trees tree) (map f (ys ++ all))
  put_each db f ys all after readable casts it h =
      let edit : edit_of db table [] Chosen 0 (map (λ x. Null ∷ f x) all) ≡ record { table = table; gone = []; news = given_rowids f (db tree) all } =
      ap (λ rows. let e : Edit = record { table = table; gone = []; news = numbered Chosen (db tree) rows } in e) (map_cast f casts all) in
      let step = subst (λ e. Applies (office_schema l) Enforced db e it.next) edit it.applied in
      let rows : after.trees tree ≡ put_all (db tree) (given_rowids f (db tree) all) = ap (λ (d : Database). d.trees tree) it.is ∙ step.rows in
      rw rows (puts f (db tree) ys all readable step.fresh h)
    where
      map_cast : {X : Type 0} (f : X → Row) → ((x : X) → cast_row table (Null ∷ f x) ≡ Null ∷ f x) → (all : List X) → map (λ s. cast_row table (drop 0 s)) (map (λ x. Null ∷ f x) all) ≡ map (λ x. Null ∷ f x) all
      map_cast f casts [] = refl
      map_cast f casts (x ∷ all) = rw (casts x, map_cast f casts all) refl

  take_some : (db : Trees) (p : Row → Bool) (rows xs : List Row) (after : Database) → IsPermutation (map (λ (r : Row). rowid r ∷ []) (filter (λ r. p (drop 1 r)) (db tree))) rows
      → Stepped l db (edit_of db table (ids_of rows) Given 0 []) after → Stores (db tree) xs → Stores (after.trees tree) (filter (λ x. not (p x)) xs)
  take_some db p rows xs after found it h =
      let rows_are : after.trees tree ≡ without_all (db tree) (ids_of rows) = ap (λ (d : Database). d.trees tree) it.is ∙ it.applied.rows in
      let ids = IsPermutation-map (λ (r : Row). id_in (rowid r)) _ _ found in
      rw rows_are (stores_without (db tree) xs p (ids_of rows) h (subst (λ l. IsPermutation l (ids_of rows)) (map_twice (filter (λ r. p (drop 1 r)) (db tree))) ids))
    where
      map_twice : (rs : List Row) → map (λ (r : Row). id_in (rowid r)) (map (λ (r : Row). rowid r ∷ []) rs) ≡ ids_of rs
      map_twice [] = refl
      map_twice (r ∷ rs) = ap (λ l. id_in (rowid r) ∷ l) (map_twice rs)

  -- no two rows differ in their rowids alone
  abbrev pub IsLone : Row → Type 0
  IsLone x = (next : Trees) → Fits (office_schema l) next → (i j : ℤ) → Has (next tree) (Int i ∷ x) → Has (next tree) (Int j ∷ x) → i ≡ j

  put_one : (db : Trees) (p : Row → Bool) (x : Row) (rows xs : List Row) (after : Database) → IsReadableRow x → ((id : ℤ) → cast_row table (Int id ∷ x) ≡ Int id ∷ x) → IsLone x
      → IsPermutation (map (λ (r : Row). rowid r ∷ rowid r ∷ x) (filter (λ r. p (drop 1 r)) (db tree))) rows
      → Stepped l db (edit_of db table (ids_of rows) Given 1 rows) after → Stores (db tree) xs
      → Stores (after.trees tree) (cond (nat_lt 0 (length (edit_of db table (ids_of rows) Given 1 rows).news)) (x ∷ filter (λ y. not (p y)) xs) (filter (λ y. not (p y)) xs))
  put_one db p x rows xs after readable casts lone found it h =
      let left = stores_without (db tree) xs p (ids_of rows) h (subst (λ l. IsPermutation l (ids_of rows)) (ids_are _) (IsPermutation-map (λ (r : Row). id_in (rowid r)) _ _ found)) in
      let each = all-permutation (λ y. (id : ℤ) × (y ≡ Int id ∷ Int id ∷ x)) _ _ found (all_replaced x _ (all-filter _ _ (db tree) h.numbered)) in
      let left_rows = without_all (db tree) (ids_of rows) in
      let edit : edit_of db table (ids_of rows) Given 1 rows ≡ record { table = table; gone = ids_of rows; news = news_of left_rows (ids_of rows) } =
      ap (λ news. let e : Edit = record { table = table; gone = ids_of rows; news = numbered Given left_rows news } in e) (news_are rows each) in
      let step = subst (λ e. Applies (office_schema l) Enforced db e it.next) edit it.applied in
      let are : after.trees tree ≡ put_all left_rows (news_of left_rows (ids_of rows)) = ap (λ (d : Database). d.trees tree) it.is ∙ step.rows in
      rw (are, ap (λ (e : Edit). length e.news) edit) (go (ids_of rows) left_rows left step.fresh (λ i j a b. lone it.next step.fits i j (rw step.rows a) (rw step.rows b)))
    where
      ids_are : (rs : List Row) → map (λ (r : Row). id_in (rowid r)) (map (λ (r : Row). rowid r ∷ rowid r ∷ x) rs) ≡ ids_of rs
      ids_are [] = refl
      ids_are (r ∷ rs) = ap (λ l. id_in (rowid r) ∷ l) (ids_are rs)

      put : ℤ → Row
      put id = Int id ∷ x

      news_of : List Row → List ℤ → List Row
      news_of base ids = numbered Given base (map put ids)

      news_are : (some : List Row) → AreReplaced x some → map (λ s. cast_row table (drop 1 s)) some ≡ map put (ids_of some)
      news_are [] each = refl
      news_are (y ∷ some) each =
          let is : cast_row table (drop 1 y) ≡ put (id_in (rowid y)) = ap (λ z. cast_row table (drop 1 z)) each.0.1 ∙ casts each.0.0 ∙ ap (λ z. put (id_in (rowid z))) (sym each.0.1) in
          rw (is, news_are some each.1) refl

      go : (ids : List ℤ) (base : List Row) → Stores base (filter (λ y. not (p y)) xs) → are_fresh base (news_of base ids) ≡ true
          → ((i j : ℤ) → Has (put_all base (news_of base ids)) (put i) → Has (put_all base (news_of base ids)) (put j) → i ≡ j)
          → Stores (put_all base (news_of base ids)) (cond (nat_lt 0 (length (news_of base ids))) (x ∷ filter (λ y. not (p y)) xs) (filter (λ y. not (p y)) xs))
      go [] base there fresh one = there
      go (i ∷ []) base there fresh one = stores_put base (filter (λ y. not (p y)) xs) (put i) there readable refl (not-true _ (and_parts _ _ fresh).0)
      go (i ∷ j ∷ more) base there fresh one =
          let parts = and_parts _ _ fresh in
          let later = and_parts _ _ parts.1 in
          let here = has_new (put i) base (not-true _ parts.0) in
          let next = has_new (put j) (put_row (put i) base) (not-true _ later.0) in
          let same : i ≡ j = one i j (has_all _ _ _ later.1 (has_put (put j) (put_row (put i) base) (put i) (not-true _ later.0) here)) (has_all _ _ _ later.1 next) in
          let taken : is_taken (put_row (put i) base) (put j) ≡ true =
          some_from (λ r. is_eq (value_cmp (rowid r) (Int j))) (put_row (put i) base) (put i) here (ap (λ k. is_eq (value_cmp (Int i) (Int k))) (sym same) ∙ ap is_eq (tied_itself value_cmp_total (Int i))) in
          absurd (let free : is_taken (put_row (put i) base) (put j) ≡ false = not-true _ later.0 in cc)

  module _ (sql : List ℕ) (params : Row) (old new : State) (has : old.now.schema ≡ office_schema l) (plain : IsPlain (understood (office_schema l) sql)) (count : ℕ) (ran : Executes sql params old new (Ok count)) where
    rewrites : (edit : Edit) → edit.table ≡ table → Stepped l old.now.trees edit new.now → Shows old new new.now (cond old.in_transaction old.committed new.now) old.in_transaction → Rewrites l old new tree
    rewrites edit is it shown = record {
      schema = ap (λ (d : Database). d.schema) it.is;
      others = λ t other free. ap (λ (d : Database). d.trees t) it.is ∙ it.applied.others t (rw is other) free;
      shown = shown;
    }

    pub inserts : {X : Type 0} (terms : List Term) (width : ℕ) (f : X → Row) (ys all : List X) → AllByRecursion (λ x. IsReadableRow (f x)) all → command_of (understood (office_schema l) sql) ≡ Insert at (Values terms width)
        → value_rows (params ++ []) width (length terms / width) terms ≡ map (λ x. Null ∷ f x) all → ((x : X) → cast_row table (Null ∷ f x) ≡ Null ∷ f x)
        → Stores (old.now.trees tree) (map f ys) → Rewrites l old new tree × Stores (new.now.trees tree) (map f (ys ++ all))
    inserts terms width f ys all readable is these casts h =
        let w = runs_as sql params old new (office_schema l) has (Insert at (Values terms width)) is plain count ran in
        let text = statement_of sql (understood (office_schema l) sql) in
        let does = subst (λ s. Does old.step_limit (mode_of old) params (record old.now { schema = s }) text None (Insert at (Values terms width)) (Ok (w.tally, new.now))) has w.changed in
        let it = subst (λ rows. Stepped l old.now.trees (edit_of old.now.trees table [] Chosen 0 rows) new.now) these (insert_does old.step_limit params old.now.trees text terms width w.tally new.now does) in
        (rewrites _ refl it w.shown, put_each old.now.trees f ys all new.now readable casts it h)

    pub deletes : (filters : List Term) (p : Row → Bool) (xs : List Row) → command_of (understood (office_schema l) sql) ≡ Delete at (record { lets = []; body = select_from tree filters (col 1 0 ∷ []) })
        → ((r : Row) → list_all (holds (params ∷ r ∷ [])) filters ≡ p (drop 1 r))
        → Stores (old.now.trees tree) xs → Rewrites l old new tree × Stores (new.now.trees tree) (filter (λ x. not (p x)) xs)
    deletes filters p xs is test h =
        let q = select_from tree filters (col 1 0 ∷ []) in
        let w = runs_as sql params old new (office_schema l) has (Delete at (record { lets = []; body = q })) is plain count ran in
        let text = statement_of sql (understood (office_schema l) sql) in
        let does = subst (λ s. Does old.step_limit (mode_of old) params (record old.now { schema = s }) text None (Delete at (record { lets = []; body = q })) (Ok (w.tally, new.now))) has w.changed in
        let it = delete_does old.step_limit params old.now.trees text q w.tally new.now does in
        let found = answered tree plainly filters (col 1 0 ∷ []) (λ r. p (drop 1 r)) params old.now.trees it.0 test it.1 in
        (rewrites _ refl it.2 w.shown, take_some old.now.trees p it.0 xs new.now found it.2 h)

    pub updates : (filters project : List Term) (p : Row → Bool) (x : Row) (xs : List Row) → command_of (understood (office_schema l) sql) ≡ Update at (record { lets = []; body = select_from tree filters project })
        → ((r : Row) → list_all (holds (params ∷ r ∷ [])) filters ≡ p (drop 1 r)) → ((r : Row) → eval_all project (params ∷ r ∷ []) ≡ rowid r ∷ rowid r ∷ x)
        → IsReadableRow x → ((id : ℤ) → cast_row table (Int id ∷ x) ≡ Int id ∷ x) → IsLone x
        → Stores (old.now.trees tree) xs → Rewrites l old new tree × Stores (new.now.trees tree) (cond (nat_lt 0 count) (x ∷ filter (λ y. not (p y)) xs) (filter (λ y. not (p y)) xs))
    updates filters project p x xs is test shows readable casts lone h =
        let q = select_from tree filters project in
        let w = runs_as sql params old new (office_schema l) has (Update at (record { lets = []; body = q })) is plain count ran in
        let text = statement_of sql (understood (office_schema l) sql) in
        let does = subst (λ s. Does old.step_limit (mode_of old) params (record old.now { schema = s }) text None (Update at (record { lets = []; body = q })) (Ok (w.tally, new.now))) has w.changed in
        let it = update_does old.step_limit params old.now.trees text q w.tally new.now does in
        let found = answered tree plainly filters project (λ r. p (drop 1 r)) params old.now.trees it.0 test it.1 in
        let counted : count ≡ length (edit_of old.now.trees table (ids_of it.0) Given 1 it.0).news = w.counted ∙ ap (λ n. unwrap_or n 0) it.3 in
        let placed = put_one old.now.trees p x it.0 xs new.now readable casts lone (subst (λ l. IsPermutation l it.0) (shown _) found) it.2 h in
        (rewrites _ refl it.2 w.shown, rw counted placed)
      where
        shown : (rs : List Row) → map (λ (r : Row). eval_all project (params ∷ r ∷ [])) rs ≡ map (λ (r : Row). rowid r ∷ rowid r ∷ x) rs
        shown [] = refl
        shown (r ∷ rs) = rw (shows r, shown rs) refl

  module _ (sql : List ℕ) (params : Row) (old new : State) (has : old.now.schema ≡ office_schema l) (plain : IsPlain (understood (office_schema l) sql)) where
    pub selects_of : (filters project : List Term) (names : List (List ℕ)) (p : Row → Bool) (f : Row → Row) (xs rows : List Row)
        → command_of (understood (office_schema l) sql) ≡ Select (record { lets = []; body = select_from tree filters project }) names → reads_listing (office_schema l) sql ≡ false
        → ((r : Row) → list_all (holds (params ∷ r ∷ [])) filters ≡ p (drop 1 r)) → ((r : Row) → eval_all project (params ∷ r ∷ []) ≡ f (drop 1 r))
        → Shown sql params old new rows → Stores (old.now.trees tree) xs → IsPermutation (map f (filter p xs)) rows
    selects_of filters project names p f xs rows is unlisted test shows shown h =
        let q = select_from tree filters project in
        let read = (reads_as sql params old new (office_schema l) has (Select (record { lets = []; body = q }) names) is plain unlisted rows shown).answer Null in
        let found = answered tree plainly filters project (λ r. p (drop 1 r)) params old.now.trees rows test read in
        IsPermutation-trans _ _ _ (IsPermutation-map f _ _ (IsPermutation-filter p _ _ h.same)) (subst (λ l. IsPermutation l rows) (columns_of (old.now.trees tree)) found)
      where
        columns_of : (rs : List Row) → map (λ (r : Row). eval_all project (params ∷ r ∷ [])) (filter (λ r. p (drop 1 r)) rs) ≡ map f (filter p (map (drop 1) rs))
        columns_of [] = refl
        columns_of (r ∷ rs) = elim (p (drop 1 r)) as (λ b. map (λ (s : Row). eval_all project (params ∷ s ∷ [])) (cond b (r ∷ filter (λ s. p (drop 1 s)) rs) (filter (λ s. p (drop 1 s)) rs)) ≡ map f (cond b (drop 1 r ∷ filter p (map (drop 1) rs)) (filter p (map (drop 1) rs)))) [
          | true ↦ rw (shows r, columns_of rs)
          | false ↦ columns_of rs
        ]
