use Rattle.std.proofs.Common.{None, w64, map, string_bytes, ◌∙◌}
use Rattle.std.proofs.lemmas.Int.{to_z-of_z}
use Rattle.zone_core.specs.Changes.{change_in}
use Rattle.store_rows.specs.RecordRows.{record_row}
use Rattle.store_rows.proofs.ChangeLemmas.{sides_make}
use Rattle.store_rows.proofs.batches.change_batch.Goals as goal

pub returns : goal.returns
returns c n e =
    let o = c.args.origin.now in
    let went = c.in_ok-removed.ensures ∙ (λ i. map (record_row o) (c.deref.ensures.value i)) in
    let came = c.in_ok-added.ensures ∙ (λ i. map (record_row o) (c.deref-2.ensures.value i)) in
    let made =
    c.in_ok-changes.ensures n (to_z-of_z w64 c.args.number c.ranges.number ∙ e)
    ∙ sides_make o n (change_in c.args.change.now) c.deref-3.result.now c.deref-4.result.now (c.deref-3.ensures.value ∙ went) (c.deref-4.ensures.value ∙ came) in
    λ i. record { version = None; zones = map string_bytes (c.new.ensures.items i); removed = went i; added = came i; changes = made i; receipts = c.args.receipts.items }
