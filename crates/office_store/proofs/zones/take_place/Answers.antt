use Rattle.std.proofs.Common.{◌≡◌, Err, sym, subst}
use Rattle.std.proofs.lemmas.Result.{err_from_is_err_and}
use Rattle.std.proofs.Common.{rules}
use Rattle.std.specs.Int.{w64}
use Rattle.std.specs.Prelude.{FitsSigned}
use Rattle.std.proofs.lemmas.Int.{to_z-of_z}
use Rattle.sqlite.specs.Held.{state}
use Rattle.store_rows.specs.Batches.{Leads, IsNext}
use Rattle.office_store.specs.Zones.{if_later, with_place_taken, with_replaced}
use Rattle.office_store.proofs.QueryLemmas.{asked_then}
use Rattle.office_store.proofs.FaultLemmas.{gives_nothing}
use Rattle.office_store.proofs.TurnLemmas.{refused_so, written}
use Rattle.office_store.proofs.ZoneLemmas.{gives_written}
use Rattle.office_store.proofs.zones.take_place.Goals as goal

pub returns-in_err-number-clause-answer : goal.returns-in_err-number-clause-answer
returns-in_err-number-clause-answer g c =
    λ clean s h.
    let p = err_from_is_err_and c.from_residual-in_err-number.result c.from_residual-in_err-number.ensures.1 in
    let is : c.from_residual-in_err-number.result ≡ Err c.in_err-number.field-0.0 = cc (p.1, p.2) in
    gives_nothing (λ _. c.args.zone.now) c.in_err-number.field-0.0 c.from_residual-in_err-number.result _ is c.in_err-number.ensures.named

pub returns-in_err-number-clause-turns : goal.returns-in_err-number-clause-turns
returns-in_err-number-clause-turns g c =
    refused_so (state g.S.Store c.args.conn.now) (state g.S.Store c.next_number.new.conn) c.from_residual-in_err-number.result _ c.from_residual-in_err-number.ensures.0
    (asked_then (state g.S.Store c.args.conn.now) (state g.S.Store c.zone_before.new.conn) (state g.S.Store c.next_number.new.conn) c.zone_before.ensures.asks.0 c.next_number.ensures.asked)

pub returns-in_err-batch-clause-turns : goal.returns-in_err-batch-clause-turns
returns-in_err-batch-clause-turns g c =
    refused_so (state g.S.Store c.args.conn.now) (state g.S.Store c.next_number.new.conn) c.from_residual-in_err-batch.result _ c.from_residual-in_err-batch.ensures.0
    (asked_then (state g.S.Store c.args.conn.now) (state g.S.Store c.zone_before.new.conn) (state g.S.Store c.next_number.new.conn) c.zone_before.ensures.asks.0 c.next_number.ensures.asked)

pub returns-clause-answer : goal.returns-clause-answer
returns-clause-answer g c =
    λ clean s h.
    let zone = c.args.zone.now in
    let first = c.next_number.ensures.asked.honest (c.write_to.ensures.honest clean) in
    gives_written (λ _. zone) c.write_to.result (if_later (s.zones zone.origin) zone) c.write_to.ensures.named (λ _. c.in_ok-old.ensures.answer first s h)

pub returns-clause-turns : goal.returns-clause-turns
returns-clause-turns g c =
    let w = c.in_ok-batch.batch in
    let zone = c.args.zone.now in
    written (state g.S.Store c.args.conn.now) (state g.S.Store c.next_number.new.conn) (state g.S.Store c.write_to.new.conn) c.write_to.result w (λ s. with_replaced s (if_later (s.zones zone.origin) zone))
    (asked_then (state g.S.Store c.args.conn.now) (state g.S.Store c.zone_before.new.conn) (state g.S.Store c.next_number.new.conn) c.zone_before.ensures.asks.0 c.next_number.ensures.asked)
    c.write_to.ensures.made c.write_to.ensures.failed c.write_to.ensures.kept c.write_to.ensures.crash c.write_to.ensures.honest
    (λ clean s h.
    let early = c.write_to.ensures.honest clean in
    let first = c.next_number.ensures.asked.honest early in
    let before = c.in_ok-old.ensures.held first s h in
    let number = c.in_ok-number.number in
    let fits : FitsSigned w64 number = search rules in
    let next = subst (λ o. IsNext s o c.in_ok-number.number) c.origin.ensures.value (c.in_ok-number.ensures.next early s (c.zone_before.ensures.asks.0.same s h)) in
    subst (λ t. Leads w s (with_replaced s t)) (sym (c.in_ok-old.ensures.answer first s h))
    (subst (λ o. Leads w s (with_place_taken s zone o)) (sym before.1) (c.in_ok-batch.ensures.leads s before.0 before.1 before.2 (subst (λ n. IsNext s zone.origin n) (sym (to_z-of_z w64 number fits)) next))))
