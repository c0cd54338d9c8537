use Rattle.std.proofs.Common.{true, subst, sym}
use Rattle.std.specs.List.{AllByRecursion}
use Rattle.sqlite.specs.Values.{bound}
use Rattle.sqlite.specs.Held.{state}
use Rattle.sqlite.specs.State.{Shown}
use Rattle.store_sql.specs.Stores.{IsReadableRow}
use Rattle.store_sql.proofs.Commits.{if_ok_then}
use Rattle.store_sql.proofs.RowLemmas.{never_bad}
use Rattle.store_sql.proofs.query.ask.Goals as goal

pub returns-clause-shown : goal.returns-clause-shown
returns-clause-shown g c clean =
    let begun = state g.S.Store (record c.args.conn.now { in_transaction = true }) in
    let h = c.in_ok-rows.ensures.shown clean in
    if_ok_then c.read_rows.result _ _ c.read_rows.ensures.found (λ xs found. (h.0, subst (Shown c.args.sql.now (bound c.args.params.now) begun (state g.S.Store h.0)) found.0 h.1))

pub returns-clause-readable : goal.returns-clause-readable
returns-clause-readable g c = if_ok_then c.read_rows.result _ _ c.read_rows.ensures.found (λ xs found. subst (AllByRecursion IsReadableRow) found.0 found.1)

pub returns-clause-bad : goal.returns-clause-bad
returns-clause-bad g c clean is =
    let h = c.in_ok-rows.ensures.shown clean in
    (c.in_ok-rows.rows.items, h.0, h.1, (λ xs same readable. c.read_rows.ensures.bad is xs same readable))

pub returns-in_err-rows-clause-bad : goal.returns-in_err-rows-clause-bad
returns-in_err-rows-clause-bad g c clean is = absurd (let told = rw is at c.from_residual.ensures.1 in never_bad _ (sym told))
