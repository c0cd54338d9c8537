use Rattle.std.proofs.Common.{◌≡◌, pos, Some, w64, ◌∙◌}
use Rattle.std.proofs.lemmas.Int.{to_z-of_z}
use Rattle.zone_core.specs.Changes.{ChangeOf, change_in, change_between}
use Rattle.office_model.specs.States.{Held, State}
use Rattle.store_sql.specs.Rows.{BatchOf}
use Rattle.store_rows.specs.Batches.{Leads, IsNext, change_batch, with_zone_replaced}
use Rattle.store_rows.proofs.batches.replacement_batch.Goals as goal
use Rattle.store_rows.proofs.BatchLaws.{if_number, if_ok_same, replacement_leads}

pub returns-clause-exact : goal.returns-clause-exact
returns-clause-exact c n e =
    let made : change_in c.in_ok-change.change ≡ change_between c.args.old.now.records c.args.new.now.records =
    c.in_ok-change.ensures ∙ (λ i. change_between (c.records.ensures.set i) (c.records-2.ensures.set i)) in
    if_ok_same c.change_batch.result _ _
    (λ i. change_batch (c.origin.ensures.value i) n (made i) (c.new.ensures.items i))
    (c.change_batch.ensures n (to_z-of_z w64 c.args.number c.ranges.number ∙ e))

pub returns-clause-leads : goal.returns-clause-leads
returns-clause-leads c =
    let old = c.args.old.now in
    let new = c.args.new.now in
    let change : ChangeOf = change_in c.in_ok-change.change in
    let made : change ≡ change_between old.records new.records =
    c.in_ok-change.ensures ∙ (λ i. change_between (c.records.ensures.set i) (c.records-2.ensures.set i)) in
    let own : c.origin.result.now ≡ new.origin = c.origin.ensures.value in
    let number = to_z-of_z w64 c.args.number c.ranges.number in
    if_number c.change_batch.result (λ n. c.args.number ≡ pos n) (λ n (w : BatchOf). w ≡ change_batch c.origin.result.now n change c.new.result.items)
    (λ (w : BatchOf). (s : State) (held : Held) → s.zones new.origin ≡ Some held → held.records ≡ old.records → IsNext s new.origin c.args.number → Leads w s (with_zone_replaced s new held))
    (λ n e. c.change_batch.ensures n (number ∙ e))
    (λ w told. replacement_leads old new change c.args.number w c.reveal_zone.ensures.zone c.reveal_zone-2.ensures.zone c.requires.differs made
    (λ n e. told n e ∙ (λ i. change_batch (own i) n change (c.new.ensures.items i))))
