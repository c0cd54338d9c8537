use Rattle.sqlite.specs.Held.{state}
use Rattle.office_store.proofs.QueryLemmas.{answered_once, refused_early, refused_once}
use Rattle.office_store.proofs.queries.rows_below.Goals as goal

pub returns-in-Some-clause-asks : goal.returns-in-Some-clause-asks
returns-in-Some-clause-asks g c = answered_once (state g.S.Store c.args.conn.now) (state g.S.Store c.records_between.new.conn) c.records_between.ensures.asks c.in_ok-records_between-in-Some.ensures.same

pub returns-clause-asks : goal.returns-clause-asks
returns-clause-asks g c = answered_once (state g.S.Store c.args.conn.now) (state g.S.Store c.records_of.new.conn) c.records_of.ensures.asks c.in_ok-records_of-in-None.ensures.same

pub returns-in_err-range-clause-asks : goal.returns-in_err-range-clause-asks
returns-in_err-range-clause-asks g c = refused_early (state g.S.Store c.args.conn.now) c.from_residual.result c.from_residual.ensures.0

pub returns-in_err-records_between-in-Some-clause-asks : goal.returns-in_err-records_between-in-Some-clause-asks
returns-in_err-records_between-in-Some-clause-asks g c = refused_once (state g.S.Store c.args.conn.now) (state g.S.Store c.records_between.new.conn) c.from_residual-in_err-records_between-in-Some.result c.from_residual-in_err-records_between-in-Some.ensures.0 c.records_between.ensures.asks

pub returns-in_err-records_of-in-None-clause-asks : goal.returns-in_err-records_of-in-None-clause-asks
returns-in_err-records_of-in-None-clause-asks g c = refused_once (state g.S.Store c.args.conn.now) (state g.S.Store c.records_of.new.conn) c.from_residual-in_err-records_of-in-None.result c.from_residual-in_err-records_of-in-None.ensures.0 c.records_of.ensures.asks
