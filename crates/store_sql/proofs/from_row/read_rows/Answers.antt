use Rattle.std.proofs.Common.{◌≡◌, ◌∙◌, ◌<◌, [], ◌∷◌, ◌++◌, length, get_or, map, ap, sym, rules, subst}
use mathlib.Core.List.{map-append}
use Rattle.sqlite_trees.proofs.ListLemmas.{all-append}
use Rattle.std.specs.List.{AllByRecursion}
use Rattle.std.proofs.lemmas.Iterator.Adapters.{YieldsList-from_vec}
use Rattle.std.proofs.lemmas.Iterator.Consumers.{YieldsList-turn}
use Rattle.store_sql.specs.Stores.{IsReadableRow}
use Rattle.store_sql.proofs.RowLemmas.{stored_at}
use Rattle.store_sql.proofs.from_row.read_rows.Goals as goal

pub returns-in_err-read-clause-bad : goal.returns-in_err-read-clause-bad
returns-in_err-read-clause-bad g c is xs same readable =
    let turn = YieldsList-turn (YieldsList-from_vec {s = c.into_iter-row-iterator.result} c.args.rows.items (search rules) (search rules))
    c.loop-row.yielded c.loop-row.row-iterator c.loop-row.yielded_by c.next.result c.next.new.self c.in-Some.row c.in-Some.is c.next.ensures.steps in
    let it = stored_at g.T.FromRow.stored IsReadableRow xs (length c.loop-row.yielded) c.in-Some.row (subst (λ l. length c.loop-row.yielded < length l) same turn.0)
    (subst (λ l. c.in-Some.row ≡ get_or l (length c.loop-row.yielded) c.in-Some.row) same turn.1) (subst (AllByRecursion IsReadableRow) same readable) in
    let told = rw is at c.from_residual-in_err-read.ensures.1 in
    c.in_err-read.ensures.bad (cc) it.0 it.1 it.2

pub loop-row-preserved : goal.loop-row-preserved
loop-row-preserved g c =
    let inv = c.loop-row.invariant in
    let found = c.in_ok-read.ensures.found in
    let stored = g.T.FromRow.stored in
    let values = c.loop-row.values.items in
    let value = c.in_ok-read.field-0 in record {
      same = ap (λ l. l ++ c.in-Some.row ∷ []) inv.same ∙ ap (λ r. map stored values ++ r ∷ []) found.0 ∙ sym (map-append stored values (value ∷ [])) ∙ ap (map stored) (sym c.in_ok-push.ensures.items);
      readable = all-append IsReadableRow c.loop-row.yielded (c.in-Some.row ∷ []) inv.readable (found.1, tt);
    }
