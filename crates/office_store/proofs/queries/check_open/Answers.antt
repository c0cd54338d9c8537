use Rattle.std.proofs.Common.{[], arith}
use Rattle.sqlite.specs.Held.{state}
use Rattle.sqlite.specs.State.{HasCleanDisk}
use Rattle.store_sql.proofs.Queries.{not_run_keeps_all}
use Rattle.store_sql.proofs.Commits.{clean_if_open, holds_on, left_before, unchanged_keeps_all}
use Rattle.office_store.proofs.QueryLemmas.{asked_of, asks_refused, unchanged_only}
use Rattle.office_store.proofs.queries.check_open.Goals as goal

pub returns-in_err-_statement-clause-shown : goal.returns-in_err-_statement-clause-shown
returns-in_err-_statement-clause-shown g c up =
    let old = state g.S.Store c.args.conn.now in
    let new = state g.S.Store c.prepare.new.self in
    let clean : HasCleanDisk new = clean_if_open _ _ (g.met.S.Store.shut_if_dirty c.prepare.new.self.store) up in
    not_run_keeps_all old new _ _ _ (c.in_err-_statement.ensures.err clean []) up

pub returns-in_err-_statement-clause-asks : goal.returns-in_err-_statement-clause-asks
returns-in_err-_statement-clause-asks g c =
    let old = state g.S.Store c.args.conn.now in
    let new = state g.S.Store c.prepare.new.self in
    asks_refused old new c.from_residual.result c.from_residual.ensures.0 (asked_of old new (λ rows h. holds_on old new rows (returns-in_err-_statement-clause-shown g c) h) (λ clean db may. left_before old new c.prepare.ensures.survives clean db may) (λ clean. omega (arith, c.prepare.ensures.survives.clean)))

pub returns-clause-shown : goal.returns-clause-shown
returns-clause-shown g c up =
    let old = state g.S.Store c.args.conn.now in
    let new = state g.S.Store c.prepare.new.self in
    let clean : HasCleanDisk new = clean_if_open _ _ (g.met.S.Store.shut_if_dirty c.prepare.new.self.store) up in
    unchanged_keeps_all old new (c.in_ok-_statement.ensures.ok clean).1 up

pub returns-clause-asks : goal.returns-clause-asks
returns-clause-asks g c =
    let old = state g.S.Store c.args.conn.now in
    let new = state g.S.Store c.prepare.new.self in (
      asked_of old new (λ rows h. holds_on old new rows (returns-clause-shown g c) h) (λ clean db may. left_before old new c.prepare.ensures.survives clean db may) (λ clean. omega (arith, c.prepare.ensures.survives.clean)),
      λ clean. unchanged_only old new (c.in_ok-_statement.ensures.ok clean).1,
    )

pub returns-clause-open : goal.returns-clause-open
returns-clause-open g c = λ clean. (c.in_ok-_statement.ensures.ok clean).1.0.was_open
