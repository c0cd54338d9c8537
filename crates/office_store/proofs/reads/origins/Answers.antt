use Rattle.std.proofs.Common.{pos}
use Rattle.sqlite.specs.Held.{state}
use Rattle.office_store.proofs.QueryLemmas.{answered_once, asked_once, asks_refused, refused_early, refused_once}
use Rattle.office_store.proofs.reads.origins.Goals as goal

pub returns-clause-answer : goal.returns-clause-answer
returns-clause-answer g c = λ clean s h. c.in_ok-sorted_origins.ensures.held (pos 2) h.rows s h.are (c.in_ok-names.ensures.answer clean h.rows h.held)

pub returns-clause-asks : goal.returns-clause-asks
returns-clause-asks g c = answered_once (state g.S.Store c.args.conn.now) (state g.S.Store c.all_zones.new.conn) c.all_zones.ensures.asks c.in_ok-names.ensures.same

pub returns-in_err-check_alone-clause-asks : goal.returns-in_err-check_alone-clause-asks
returns-in_err-check_alone-clause-asks g c = refused_early (state g.S.Store c.args.conn.now) c.from_residual.result c.from_residual.ensures.0

pub returns-in_err-names-clause-asks : goal.returns-in_err-names-clause-asks
returns-in_err-names-clause-asks g c = refused_once (state g.S.Store c.args.conn.now) (state g.S.Store c.all_zones.new.conn) c.from_residual-in_err-names.result c.from_residual-in_err-names.ensures.0 c.all_zones.ensures.asks

pub returns-in_err-sorted_origins-clause-asks : goal.returns-in_err-sorted_origins-clause-asks
returns-in_err-sorted_origins-clause-asks g c =
    let asked = asked_once (state g.S.Store c.args.conn.now) (state g.S.Store c.all_zones.new.conn) c.all_zones.ensures.asks in
    asks_refused (state g.S.Store c.args.conn.now) (state g.S.Store c.all_zones.new.conn) c.from_residual-in_err-sorted_origins.result c.from_residual-in_err-sorted_origins.ensures.0 asked
