use Rattle.std.proofs.Common.{◌≡◌, Err, ap}
use Rattle.std.proofs.lemmas.Result.{err_from_is_err_and}
use Rattle.sqlite.specs.Held.{state}
use Rattle.office_store.specs.Zones.{removed}
use Rattle.office_store.proofs.QueryLemmas.{none_held, some_held}
use Rattle.office_store.proofs.FaultLemmas.{gives_nothing}
use Rattle.office_store.proofs.TurnLemmas.{turned_then}
use Rattle.office_store.proofs.ZoneLemmas.{gives_written}
use Rattle.office_store.proofs.zones.remove.Goals as goal

pub returns-in_err-text-clause-answer : goal.returns-in_err-text-clause-answer
returns-in_err-text-clause-answer g c =
    λ clean s h.
    let p = err_from_is_err_and c.from_residual.result c.from_residual.ensures.1 in
    let is : c.from_residual.result ≡ Err c.in_err-text.field-0.0 = cc (p.1, p.2) in
    gives_nothing (λ done. done) c.in_err-text.field-0.0 c.from_residual.result _ is c.in_err-text.ensures.named

pub returns-in_default-clause-answer : goal.returns-in_default-clause-answer
returns-in_default-clause-answer g c = λ clean s h. ap removed (none_held (s.zones c.args.origin.now) ((rw c.in_default.is at (c.in_ok-text.ensures.found clean)) s h))

pub returns-clause-answer : goal.returns-clause-answer
returns-clause-answer g c =
    λ clean s h.
    let it = some_held (s.zones c.args.origin.now) ((rw c.in-Some.is at (c.in_ok-text.ensures.found (c.take_out.ensures.turns.honest clean))) s h) in
    gives_written (λ done. done) c.take_out.result (removed (s.zones c.args.origin.now)) c.take_out.ensures.named (λ x. ap removed it.1)

pub returns-clause-turns : goal.returns-clause-turns
returns-clause-turns g c =
    turned_then (state g.S.Store c.args.conn.now) (state g.S.Store c.held_text.new.conn) (state g.S.Store c.take_out.new.conn) c.take_out.result _ c.held_text.ensures.asks.0 c.take_out.ensures.turns
