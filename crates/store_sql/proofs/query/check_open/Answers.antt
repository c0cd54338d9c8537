use Rattle.sqlite.specs.Held.{state}
use Rattle.sqlite.specs.State.{HasCleanDisk}
use Rattle.std.proofs.Common.{[]}
use Rattle.store_sql.proofs.Queries.{not_run_keeps, not_run_keeps_all}
use Rattle.store_sql.proofs.Commits.{clean_if_open, unchanged_keeps_all}
use Rattle.store_sql.proofs.query.check_open.Goals as goal

pub returns-in_err-_statement-clause-stays : goal.returns-in_err-_statement-clause-stays
returns-in_err-_statement-clause-stays g c =
    let old = state g.S.Store c.args.conn.now in
    let new = state g.S.Store c.prepare.new.self in
    record { survives = c.prepare.ensures.survives; kept = λ clean. not_run_keeps old new _ _ _ (c.in_err-_statement.ensures.err clean []) }

pub returns-in_err-_statement-clause-back : goal.returns-in_err-_statement-clause-back
returns-in_err-_statement-clause-back g c up =
    let old = state g.S.Store c.args.conn.now in
    let new = state g.S.Store c.prepare.new.self in
    let clean : HasCleanDisk new = clean_if_open _ _ (g.met.S.Store.shut_if_dirty c.prepare.new.self.store) up in
    not_run_keeps_all old new _ _ _ (c.in_err-_statement.ensures.err clean []) up

pub returns-clause-back : goal.returns-clause-back
returns-clause-back g c up =
    let old = state g.S.Store c.args.conn.now in
    let new = state g.S.Store c.prepare.new.self in
    let clean : HasCleanDisk new = clean_if_open _ _ (g.met.S.Store.shut_if_dirty c.prepare.new.self.store) up in
    unchanged_keeps_all old new (c.in_ok-_statement.ensures.ok clean).1 up
