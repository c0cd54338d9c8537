use Rattle.std.proofs.Common.{pos, subst, sym, IsPermutation}
use Rattle.std.proofs.lemmas.List.{map-id}
use Rattle.sqlite.specs.Held.{state}
use Rattle.office_store.proofs.QueryLemmas.{answered_once, asked_once, asks_refused, refused_early, refused_once}
use Rattle.office_store.proofs.reads.receipts.Goals as goal

pub returns-clause-answer : goal.returns-clause-answer
returns-clause-answer g c =
    λ clean s h.
    let rows = subst (IsPermutation h.rows.receipts) (sym c.deref.ensures.value) (subst (IsPermutation h.rows.receipts) (map-id c.in_ok-rows.rows.items) (c.in_ok-rows.ensures.answer clean h.rows h.held)) in
    c.in_ok-kept.ensures.held (pos 2) h.rows s h.are rows

pub returns-clause-asks : goal.returns-clause-asks
returns-clause-asks g c = answered_once (state g.S.Store c.args.conn.now) (state g.S.Store c.all_receipts.new.conn) c.all_receipts.ensures.asks c.in_ok-rows.ensures.same

pub returns-in_err-check_alone-clause-asks : goal.returns-in_err-check_alone-clause-asks
returns-in_err-check_alone-clause-asks g c = refused_early (state g.S.Store c.args.conn.now) c.from_residual.result c.from_residual.ensures.0

pub returns-in_err-rows-clause-asks : goal.returns-in_err-rows-clause-asks
returns-in_err-rows-clause-asks g c = refused_once (state g.S.Store c.args.conn.now) (state g.S.Store c.all_receipts.new.conn) c.from_residual-in_err-rows.result c.from_residual-in_err-rows.ensures.0 c.all_receipts.ensures.asks

pub returns-in_err-kept-clause-asks : goal.returns-in_err-kept-clause-asks
returns-in_err-kept-clause-asks g c =
    let asked = asked_once (state g.S.Store c.args.conn.now) (state g.S.Store c.all_receipts.new.conn) c.all_receipts.ensures.asks in
    asks_refused (state g.S.Store c.args.conn.now) (state g.S.Store c.all_receipts.new.conn) c.from_residual-in_err-kept.result c.from_residual-in_err-kept.ensures.0 asked
