use Rattle.std.proofs.Common.{◌≡◌, Ok, Err, sym, ◌∙◌, subst}
use Rattle.std.proofs.lemmas.Result.{err_from_is_err_and}
use Rattle.sqlite.specs.Held.{state}
use Rattle.office_model.specs.States.{State}
use Rattle.store_faults.specs.declared.store_fault.StoreFault.{StoreFault}
use Rattle.store_faults.specs.StoreFaults.{Refuses}
use Rattle.office_store.specs.Turns.{Turns}
use Rattle.office_store.specs.Zones.{if_later, with_replaced}
use Rattle.office_store.proofs.QueryLemmas.{asked_nothing}
use Rattle.office_store.proofs.FaultLemmas.{gives_refused}
use Rattle.office_store.proofs.TurnLemmas.{refused_so, handed_ok, handed_err}
use Rattle.office_store.proofs.ZoneLemmas.{replaced_is}
use Rattle.office_store.proofs.zones.replace.Goals as goal

pub returns-in_err-zone-clause-turns : goal.returns-in_err-zone-clause-turns
returns-in_err-zone-clause-turns g c = refused_so (state g.S.Store c.args.conn.now) (state g.S.Store c.args.conn.now) c.from_residual.result _ c.from_residual.ensures.0 (asked_nothing (state g.S.Store c.args.conn.now))

pub returns-in_err-take_place-clause-answer : goal.returns-in_err-take_place-clause-answer
returns-in_err-take_place-clause-answer g c =
    λ clean s h.
    let p = err_from_is_err_and c.from_residual-in_err-take_place.result c.from_residual-in_err-take_place.ensures.1 in
    let is : c.from_residual-in_err-take_place.result ≡ Err c.in_err-take_place.field-0.0 = cc (p.1, p.2) in
    gives_refused (λ zone. zone) c.in_err-take_place.field-0.0 c.from_residual-in_err-take_place.result _ is
    (subst (λ t. Refuses c.in_err-take_place.field-0.0 t) (replaced_is s c.args.origin c.args.records.items c.in_ok-zone.zone c.in_ok-zone.ensures.exact) (c.in_err-take_place.ensures.answer clean s h))

pub returns-in_err-take_place-clause-turns : goal.returns-in_err-take_place-clause-turns
returns-in_err-take_place-clause-turns g c =
    let old = state g.S.Store c.args.conn.now in
    let new = state g.S.Store c.take_place.new.conn in
    let zone = c.in_ok-zone.zone in
    subst (λ (f : State → State). Turns old new c.from_residual-in_err-take_place.result f) (λ i s. with_replaced s (replaced_is s c.args.origin c.args.records.items zone c.in_ok-zone.ensures.exact i))
    (handed_err old new c.in_err-take_place.field-0.0 c.from_residual-in_err-take_place.result (λ s. with_replaced s (if_later (s.zones zone.origin) zone)) c.from_residual-in_err-take_place.ensures.0 c.in_err-take_place.ensures.turns)

pub returns-clause-answer : goal.returns-clause-answer
returns-clause-answer g c = λ clean s h. sym (replaced_is s c.args.origin c.args.records.items c.in_ok-zone.zone c.in_ok-zone.ensures.exact) ∙ c.in_ok-take_place.ensures.answer clean s h

pub returns-clause-turns : goal.returns-clause-turns
returns-clause-turns g c =
    let old = state g.S.Store c.args.conn.now in
    let new = state g.S.Store c.take_place.new.conn in
    let zone = c.in_ok-zone.zone in
    subst (λ (f : State → State). Turns {E = StoreFault} old new (Ok zone) f) (λ i s. with_replaced s (replaced_is s c.args.origin c.args.records.items zone c.in_ok-zone.ensures.exact i))
    (handed_ok old new tt zone (λ s. with_replaced s (if_later (s.zones zone.origin) zone)) c.in_ok-take_place.ensures.turns)
