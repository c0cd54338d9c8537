use Rattle.std.proofs.Common.{w64, map, ◌∙◌}
use Rattle.std.proofs.lemmas.Int.{to_z-of_z}
use Rattle.std.proofs.lemmas.Result.{IfOk-weaker}
use Rattle.zone_core.specs.Changes.{change_in}
use Rattle.store_rows.specs.RecordRows.{record_row}
use Rattle.store_rows.proofs.ChangeLemmas.{sides_make}
use Rattle.store_rows.proofs.changes.change_rows.Goals as goal

pub returns : goal.returns
returns c n e =
    let o = c.args.origin.now in
    let went = c.deref-3.ensures.value ∙ c.in_ok-removed.ensures ∙ (λ i. map (record_row o) (c.deref.ensures.value i)) in
    let came = c.deref-4.ensures.value ∙ c.in_ok-added.ensures ∙ (λ i. map (record_row o) (c.deref-2.ensures.value i)) in
    IfOk-weaker c.rows_of_sides.result _ _ (λ rows is. is ∙ sides_make o n (change_in c.args.change.now) c.deref-3.result.now c.deref-4.result.now went came)
    (c.rows_of_sides.ensures n (to_z-of_z w64 c.args.number c.ranges.number ∙ e))
