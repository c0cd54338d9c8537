use Rattle.std.proofs.Common.{◌≡◌, ◌++◌, ◌∷◌, [], ℤ, List, append_assoc, subst, rules}
use Rattle.std.specs.Int.{w64}
use Rattle.std.specs.Prelude.{FitsSigned}
use Rattle.std.proofs.lemmas.Int.{to_z-of_z}
use Rattle.sqlite_value.specs.Order.{Row}
use Rattle.store_sql.specs.Stores.{Numbers}
use Rattle.store_sql.specs.Taken.{AreTaken, TakesMore}
use Rattle.store_sql.proofs.RowLemmas.{numbered_more}
use Rattle.store_sql.proofs.scans.take_numbered.Goals as goal

-- a row more is taken
one_more : {C R : Type 0} (stored : R → Row) (has_taken : C → List R → Type 0) (start old new : C) (given : List Row) (row : Row) (ids ids' : List ℤ) (id : ℤ) (x : R) → ids' ≡ ids ++ id ∷ [] → Numbers stored row id x
    → TakesMore has_taken old new (x ∷ []) → AreTaken stored has_taken start old given ids → AreTaken stored has_taken start new (given ++ row ∷ []) ids'
one_more stored has_taken start old new given row ids ids' id x is_ids one takes all = record {
  rows = all.rows ++ x ∷ [];
  numbered = rw is_ids (numbered_more stored given ids all.rows row id x all.numbered one);
  taken = λ before h. subst (has_taken new) (append_assoc before all.rows (x ∷ [])) (takes (before ++ all.rows) (all.taken before h));
}

pub returns-clause-taken : goal.returns-clause-taken
returns-clause-taken g c start given all =
    let id = c.in_ok-rowid.rowid in
    let fits : FitsSigned w64 id = search rules in
    let one : Numbers g.R.FromRow.stored c.args.row.now id c.in_ok-read.field-0 = record { first = c.in_ok-rowid.ensures.found.1; rest = c.in_ok-read.ensures.found.0; readable = c.in_ok-read.ensures.found.1 } in
    one_more g.R.FromRow.stored g.C.RowCheck.has_taken start c.args.check.now c.take.new.self given c.args.row.now c.args.rowids.now.items c.push.new.self.items id c.in_ok-read.field-0
    (rw (to_z-of_z w64 id fits) at c.in_ok-push.ensures.items) one c.in_ok-take.ensures.taken all
