use Rattle.std.proofs.Common.{◌≡◌, Err, None, sym, ap, subst}
use Rattle.std.proofs.lemmas.Result.{err_from_is_err_and}
use Rattle.sqlite.specs.Held.{state}
use Rattle.office_model.specs.States.{State}
use Rattle.store_rows.specs.Batches.{Leads}
use Rattle.office_store.specs.Holds.{HoldsState}
use Rattle.office_store.specs.Zones.{if_free, with_imported}
use Rattle.office_store.proofs.QueryLemmas.{none_held}
use Rattle.office_store.proofs.FaultLemmas.{gives_nothing}
use Rattle.office_store.proofs.TurnLemmas.{written}
use Rattle.office_store.proofs.ZoneLemmas.{gives_written}
use Rattle.office_store.proofs.zones.put_zone.Goals as goal

pub returns-in_err-held_text-clause-answer : goal.returns-in_err-held_text-clause-answer
returns-in_err-held_text-clause-answer g c =
    λ clean s h.
    let p = err_from_is_err_and c.from_residual.result c.from_residual.ensures.1 in
    let is : c.from_residual.result ≡ Err c.in_err-held_text.field-0.0 = cc (p.1, p.2) in
    gives_nothing (λ _. c.args.zone.now) c.in_err-held_text.field-0.0 c.from_residual.result _ is c.in_err-held_text.ensures.named

pub returns-clause-answer : goal.returns-clause-answer
returns-clause-answer g c =
    λ clean s h.
    let zone = c.args.zone.now in
    let none : (s : State) → HoldsState (state g.S.Store c.args.conn.now) s → s.zones zone.origin ≡ None =
    λ s h. subst (λ o. s.zones o ≡ None) c.origin.ensures.value (none_held (s.zones c.origin.result.now) ((rw c.in-None.is at (c.in_ok-held_text.ensures.found (c.write_to.ensures.honest clean))) s h)) in
    gives_written (λ _. zone) c.write_to.result (if_free (s.zones zone.origin) zone) c.write_to.ensures.named (λ _. ap (λ o. if_free o zone) (none s h))

pub returns-clause-turns : goal.returns-clause-turns
returns-clause-turns g c =
    let w = c.in_ok-batch.batch in
    written (state g.S.Store c.args.conn.now) (state g.S.Store c.held_text.new.conn) (state g.S.Store c.write_to.new.conn) c.write_to.result w (λ s. with_imported s (if_free (s.zones c.args.zone.now.origin) c.args.zone.now)) c.held_text.ensures.asks.0
    c.write_to.ensures.made c.write_to.ensures.failed c.write_to.ensures.kept c.write_to.ensures.crash c.write_to.ensures.honest
    (λ clean s h.
    let zone = c.args.zone.now in
    let none : (s : State) → HoldsState (state g.S.Store c.args.conn.now) s → s.zones zone.origin ≡ None =
    λ s h. subst (λ o. s.zones o ≡ None) c.origin.ensures.value (none_held (s.zones c.origin.result.now) ((rw c.in-None.is at (c.in_ok-held_text.ensures.found (c.write_to.ensures.honest clean))) s h)) in
    subst (λ o. Leads w s (with_imported s (if_free o zone))) (sym (none s h)) (c.in_ok-batch.ensures.leads s (none s h)))
