use Rattle.std.proofs.Common.{◌≡◌, Err, Some, option_map, sym, ap, ◌∙◌, subst}
use Rattle.sqlite.specs.Held.{state}
use Rattle.std.proofs.lemmas.Result.{err_from_is_err_and}
use Rattle.zone_core.specs.Zones.{serial_of}
use Rattle.zone_core.specs.Serials.{is_less}
use Rattle.office_model.specs.States.{zone_held, zone_at}
use Rattle.office_store.proofs.FaultLemmas.{gives_nothing}
use Rattle.office_store.proofs.ZoneLemmas.{serials_differ, held_of, told_later, told_not_later}
use Rattle.office_store.proofs.QueryLemmas.{asks_refused}
use Rattle.office_store.proofs.zones.zone_before.Goals as goal

pub returns-in_err-old-clause-answer : goal.returns-in_err-old-clause-answer
returns-in_err-old-clause-answer g c =
    λ clean s h.
    let p = err_from_is_err_and c.from_residual.result c.from_residual.ensures.1 in
    let is : c.from_residual.result ≡ Err c.in_err-old.field-0.0 = cc (p.1, p.2) in
    gives_nothing (λ _. c.args.zone.now) c.in_err-old.field-0.0 c.from_residual.result _ is c.in_err-old.ensures.named

pub returns-then-not-serial_less-clause-answer : goal.returns-then-not-serial_less-clause-answer
returns-then-not-serial_less-clause-answer g c =
    λ clean s h.
    let old = c.in-Some.old in
    let zone = c.args.zone.now in
    let there : Some old ≡ option_map (zone_held zone.origin) (s.zones zone.origin) = subst (λ o. Some old ≡ zone_at s o) c.origin.ensures.value ((rw c.in-Some.is at (c.in_ok-old.ensures.answer clean)) s h) in
    let less : c.serial_less.result ≡ is_less (serial_of old) (serial_of zone) = c.serial_less.ensures.value ∙ (λ i. is_less (c.serial.ensures i) (c.serial-2.ensures i)) in
    told_not_later (s.zones zone.origin) old zone there (sym less ∙ c.if-not-serial_less.true)

pub returns-clause-origin : goal.returns-clause-origin
returns-clause-origin g c = (rw c.in-Some.is at c.in_ok-old.ensures.origin) ∙ c.origin.ensures.value

pub returns-clause-differs : goal.returns-clause-differs
returns-clause-differs g c =
    let old = c.in-Some.old in
    let zone = c.args.zone.now in
    let less : c.serial_less.result ≡ is_less (serial_of old) (serial_of zone) = c.serial_less.ensures.value ∙ (λ i. is_less (c.serial.ensures i) (c.serial-2.ensures i)) in
    serials_differ old zone c.reveal_zone.ensures c.origin.ensures.zone (returns-clause-origin g c) (sym less ∙ c.if-not-serial_less.false)

pub returns-clause-held : goal.returns-clause-held
returns-clause-held g c =
    λ clean s h.
    let old = c.in-Some.old in
    let zone = c.args.zone.now in
    let there : Some old ≡ option_map (zone_held zone.origin) (s.zones zone.origin) = subst (λ o. Some old ≡ zone_at s o) c.origin.ensures.value ((rw c.in-Some.is at (c.in_ok-old.ensures.answer clean)) s h) in
    let found = held_of (s.zones zone.origin) zone.origin old there in
    (found.0, found.1, ap (λ z. z.records) found.2)

pub returns-clause-answer : goal.returns-clause-answer
returns-clause-answer g c =
    λ clean s h.
    let old = c.in-Some.old in
    let zone = c.args.zone.now in
    let there : Some old ≡ option_map (zone_held zone.origin) (s.zones zone.origin) = subst (λ o. Some old ≡ zone_at s o) c.origin.ensures.value ((rw c.in-Some.is at (c.in_ok-old.ensures.answer clean)) s h) in
    let less : c.serial_less.result ≡ is_less (serial_of old) (serial_of zone) = c.serial_less.ensures.value ∙ (λ i. is_less (c.serial.ensures i) (c.serial-2.ensures i)) in
    told_later (s.zones zone.origin) old zone there (sym less ∙ c.if-not-serial_less.false)

pub returns-in_err-old-clause-asks : goal.returns-in_err-old-clause-asks
returns-in_err-old-clause-asks g c = asks_refused (state g.S.Store c.args.conn.now) (state g.S.Store c.zone_at.new.conn) c.from_residual.result c.from_residual.ensures.0 c.zone_at.ensures.asks.0
