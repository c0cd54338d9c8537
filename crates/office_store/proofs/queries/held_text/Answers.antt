use Rattle.std.proofs.Common.{true, false, sym, ◌∙◌}
use Rattle.sqlite.specs.Held.{state}
use Rattle.office_store.proofs.QueryLemmas.{answered_once, refused_early, refused_once, zone_told}
use Rattle.office_store.proofs.queries.held_text.Goals as goal

pub returns-then-is_held-clause-found : goal.returns-then-is_held-clause-found
returns-then-is_held-clause-found g c =
    λ clean. zone_told (state g.S.Store c.args.conn.now) true c.deref.result.now c.args.origin.now c.reveal_name.ensures (c.deref.ensures ∙ c.in_ok-text.ensures.canonical)
    (λ rows h. sym c.if-is_held.true ∙ c.in_ok-is_held.ensures.answer clean rows h)

pub returns-else-is_held-clause-found : goal.returns-else-is_held-clause-found
returns-else-is_held-clause-found g c =
    λ clean. zone_told (state g.S.Store c.args.conn.now) false c.deref.result.now c.args.origin.now c.reveal_name.ensures (c.deref.ensures ∙ c.in_ok-text.ensures.canonical)
    (λ rows h. sym c.if-is_held.false ∙ c.in_ok-is_held.ensures.answer clean rows h)

pub returns-in_err-check_alone-clause-asks : goal.returns-in_err-check_alone-clause-asks
returns-in_err-check_alone-clause-asks g c = refused_early (state g.S.Store c.args.conn.now) c.from_residual.result c.from_residual.ensures.0

pub returns-in_err-text-clause-asks : goal.returns-in_err-text-clause-asks
returns-in_err-text-clause-asks g c = refused_early (state g.S.Store c.args.conn.now) c.from_residual-in_err-text.result c.from_residual-in_err-text.ensures.0

pub returns-in_err-is_held-clause-asks : goal.returns-in_err-is_held-clause-asks
returns-in_err-is_held-clause-asks g c = refused_once (state g.S.Store c.args.conn.now) (state g.S.Store c.has_zone.new.conn) c.from_residual-in_err-is_held.result c.from_residual-in_err-is_held.ensures.0 c.has_zone.ensures.asks

pub returns-then-is_held-clause-asks : goal.returns-then-is_held-clause-asks
returns-then-is_held-clause-asks g c = answered_once (state g.S.Store c.args.conn.now) (state g.S.Store c.has_zone.new.conn) c.has_zone.ensures.asks c.in_ok-is_held.ensures.same

pub returns-else-is_held-clause-asks : goal.returns-else-is_held-clause-asks
returns-else-is_held-clause-asks g c = answered_once (state g.S.Store c.args.conn.now) (state g.S.Store c.has_zone.new.conn) c.has_zone.ensures.asks c.in_ok-is_held.ensures.same
