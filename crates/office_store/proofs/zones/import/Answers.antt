use Rattle.std.proofs.Common.{◌≡◌, Ok, Err, sym, ◌∙◌, subst}
use Rattle.std.proofs.lemmas.Result.{err_from_is_err_and}
use Rattle.sqlite.specs.Held.{state}
use Rattle.office_model.specs.States.{State}
use Rattle.store_faults.specs.declared.store_fault.StoreFault.{StoreFault}
use Rattle.store_faults.specs.StoreFaults.{Refuses}
use Rattle.office_store.specs.Turns.{Turns}
use Rattle.office_store.specs.Zones.{if_free, with_imported}
use Rattle.office_store.proofs.QueryLemmas.{asked_nothing}
use Rattle.office_store.proofs.FaultLemmas.{gives_refused}
use Rattle.office_store.proofs.TurnLemmas.{refused_so, handed_ok, handed_err}
use Rattle.office_store.proofs.ZoneLemmas.{imported_is}
use Rattle.office_store.proofs.zones.import.Goals as goal

pub returns-in_err-zone-clause-turns : goal.returns-in_err-zone-clause-turns
returns-in_err-zone-clause-turns g c = refused_so (state g.S.Store c.args.conn.now) (state g.S.Store c.args.conn.now) c.from_residual.result _ c.from_residual.ensures.0 (asked_nothing (state g.S.Store c.args.conn.now))

pub returns-in_err-put_zone-clause-answer : goal.returns-in_err-put_zone-clause-answer
returns-in_err-put_zone-clause-answer g c =
    λ clean s h.
    let p = err_from_is_err_and c.from_residual-in_err-put_zone.result c.from_residual-in_err-put_zone.ensures.1 in
    let is : c.from_residual-in_err-put_zone.result ≡ Err c.in_err-put_zone.field-0.0 = cc (p.1, p.2) in
    gives_refused (λ zone. zone) c.in_err-put_zone.field-0.0 c.from_residual-in_err-put_zone.result _ is
    (subst (λ t. Refuses c.in_err-put_zone.field-0.0 t) (imported_is s c.args.origin c.args.records.items c.in_ok-zone.zone c.in_ok-zone.ensures.exact) (c.in_err-put_zone.ensures.answer clean s h))

pub returns-in_err-put_zone-clause-turns : goal.returns-in_err-put_zone-clause-turns
returns-in_err-put_zone-clause-turns g c =
    let old = state g.S.Store c.args.conn.now in
    let new = state g.S.Store c.put_zone.new.conn in
    let zone = c.in_ok-zone.zone in
    subst (λ (f : State → State). Turns old new c.from_residual-in_err-put_zone.result f) (λ i s. with_imported s (imported_is s c.args.origin c.args.records.items zone c.in_ok-zone.ensures.exact i))
    (handed_err old new c.in_err-put_zone.field-0.0 c.from_residual-in_err-put_zone.result (λ s. with_imported s (if_free (s.zones zone.origin) zone)) c.from_residual-in_err-put_zone.ensures.0 c.in_err-put_zone.ensures.turns)

pub returns-clause-answer : goal.returns-clause-answer
returns-clause-answer g c = λ clean s h. sym (imported_is s c.args.origin c.args.records.items c.in_ok-zone.zone c.in_ok-zone.ensures.exact) ∙ c.in_ok-put_zone.ensures.answer clean s h

pub returns-clause-turns : goal.returns-clause-turns
returns-clause-turns g c =
    let old = state g.S.Store c.args.conn.now in
    let new = state g.S.Store c.put_zone.new.conn in
    let zone = c.in_ok-zone.zone in
    subst (λ (f : State → State). Turns {E = StoreFault} old new (Ok zone) f) (λ i s. with_imported s (imported_is s c.args.origin c.args.records.items zone c.in_ok-zone.ensures.exact i))
    (handed_ok old new tt zone (λ s. with_imported s (if_free (s.zones zone.origin) zone)) c.in_ok-put_zone.ensures.turns)
