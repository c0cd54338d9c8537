use Rattle.std.proofs.Common.{◌≡◌, true, false, List, map, Some, sym, ap, subst, ◌∙◌}
use Rattle.std.proofs.lemmas.Result.{err_from_is_err_and}
use Rattle.dns_data.specs.declared.record.Record.{Record}
use Rattle.dns_data.specs.RecordOrder.{record_order}
use Rattle.zone_core.specs.Sets.{set_of, InOrder}
use Rattle.zone_core.specs.Zones.{IsZone, built}
use Rattle.zone_core.specs.Changes.{ChangeOf, change_between}
use Rattle.store_rows.specs.RowFaults.{Refuses, of_zones}
use Rattle.store_rows.specs.Orders.{rises}
use Rattle.office_store.specs.MigratedContents.{advanced, next_zone}
use Rattle.office_store.proofs.MigratedZoneLemmas.{order_from, order_to, built_zone, refused_never, records_each, nothing_changes, something_changes, next_records}
use Rattle.office_store.proofs.migration_change.zone_change.Goals as goal

pub returns-then-not-are_in_order-clause-only : goal.returns-then-not-are_in_order-clause-only
returns-then-not-are_in_order-clause-only c = λ is.
    let rs : List Record = map (λ r. r.rr) c.args.records.now in
    let seen : c.deref.result.now ≡ rs = c.deref.ensures.value ∙ c.in_ok-old.ensures in
    let told : c.are_in_order.result ≡ true = c.are_in_order.ensures ∙ ap (rises record_order) seen ∙ order_to rs is.order in
    let bad : true ≡ false = sym told ∙ c.if-not-are_in_order.true in
    absurd cc

pub returns-in_err-even-clause-only : goal.returns-in_err-even-clause-only
returns-in_err-even-clause-only c = λ is.
    let o = c.args.origin.now in
    let rs : List Record = map (λ r. r.rr) c.args.records.now in
    let e = c.in_err-even.field-0.0 in
    let p = err_from_is_err_and c.from_residual-in_err-even.result c.from_residual-in_err-even.ensures.1 in
    let refuses = subst (λ (l : List Record). Refuses e (of_zones (built o l))) c.in_ok-copied.ensures c.in_err-even.ensures.exact in
    rw (p.1, p.2) (refused_never o rs e refuses is.zone)

pub returns-then-are_those-clause-zone : goal.returns-then-are_those-clause-zone
returns-then-are_those-clause-zone c =
    let o = c.args.origin.now in
    let rs : List Record = map (λ r. r.rr) c.args.records.now in
    let seen : c.deref.result.now ≡ rs = c.deref.ensures.value ∙ c.in_ok-old.ensures in
    record {
      order = order_from rs (ap (rises record_order) (sym seen) ∙ sym c.are_in_order.ensures ∙ c.if-not-are_in_order.false);
      each = records_each c.args.records.now c.requires;
      zone = subst IsZone (built_zone o rs c.in_ok-even.even (ap (λ (l : List Record). of_zones (built o l)) (sym c.in_ok-copied.ensures) ∙ c.in_ok-even.ensures.exact)) c.records.ensures.zone;
    }

pub returns-then-are_those-clause-change : goal.returns-then-are_those-clause-change
returns-then-are_those-clause-change c =
    let o = c.args.origin.now in
    let rs : List Record = map (λ r. r.rr) c.args.records.now in
    let own = built_zone o rs c.in_ok-even.even (ap (λ (l : List Record). of_zones (built o l)) (sym c.in_ok-copied.ensures) ∙ c.in_ok-even.ensures.exact) in
    sym (nothing_changes o rs (returns-then-are_those-clause-zone c) c.in_ok-even.even own c.records.result.now c.records.ensures.order c.records.ensures.set (c.are_those.ensures.0 c.if-are_those.true))

pub change_to-requires : goal.change_to-requires
change_to-requires c =
    let rs : List Record = map (λ r. r.rr) c.args.records.now in
    let seen : c.deref.result.now ≡ rs = c.deref.ensures.value ∙ c.in_ok-old.ensures in
    subst InOrder (sym (c.deref-2.ensures.value ∙ c.in_ok-old.ensures)) (order_from rs (ap (rises record_order) (sym seen) ∙ sym c.are_in_order.ensures ∙ c.if-not-are_in_order.false))

pub returns-clause-zone : goal.returns-clause-zone
returns-clause-zone c =
    let o = c.args.origin.now in
    let rs : List Record = map (λ r. r.rr) c.args.records.now in
    let seen : c.deref.result.now ≡ rs = c.deref.ensures.value ∙ c.in_ok-old.ensures in
    record {
      order = order_from rs (ap (rises record_order) (sym seen) ∙ sym c.are_in_order.ensures ∙ c.if-not-are_in_order.false);
      each = records_each c.args.records.now c.requires;
      zone = subst IsZone (built_zone o rs c.in_ok-even.even (ap (λ (l : List Record). of_zones (built o l)) (sym c.in_ok-copied.ensures) ∙ c.in_ok-even.ensures.exact)) c.records.ensures.zone;
    }

pub returns-clause-change : goal.returns-clause-change
returns-clause-change c =
    let o = c.args.origin.now in
    let rs : List Record = map (λ r. r.rr) c.args.records.now in
    let own = built_zone o rs c.in_ok-even.even (ap (λ (l : List Record). of_zones (built o l)) (sym c.in_ok-copied.ensures) ∙ c.in_ok-even.ensures.exact) in
    let other : c.records.result.now ≡ rs → ⊥ = λ same. (let yes = c.are_those.ensures.1 same in let bad : true ≡ false = sym yes ∙ c.if-are_those.false in cc) in
    let some = something_changes o rs (returns-clause-zone c) c.in_ok-even.even own c.records.result.now c.records.ensures.order c.records.ensures.set other in
    let old : set_of c.deref-2.result.now ≡ set_of rs = ap set_of (c.deref-2.ensures.value ∙ c.in_ok-old.ensures) in
    let new : c.in_ok-next.next.records ≡ (next_zone o rs).records = next_records o rs c.in_ok-next.next (c.in_ok-next.ensures ∙ ap advanced own) in
    ap (λ (x : ChangeOf). Some x) (c.in_ok-change_to.ensures ∙ (λ i. change_between (old i) (new i))) ∙ sym some
