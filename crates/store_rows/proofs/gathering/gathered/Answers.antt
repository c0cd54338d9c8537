use Rattle.std.proofs.Common.{◌≡◌, [], map, sym, ap, ◌∙◌, arith}
use Rattle.std.proofs.lemmas.List.{nil_from_length}
use Rattle.std.specs.List.{fold}
use Rattle.std.specs.Vec.Iter.{into_iter_items}
use Rattle.zone_core.specs.Changes.{change_in}
use Rattle.store_rows.specs.ChangeRows.{placed}
use Rattle.store_rows.proofs.gathering.gathered.Goals as goal

pub loop-one-preserved : goal.loop-one-preserved
loop-one-preserved c =
    let left = into_iter_items c.next.new.self in
    ap (λ cs. fold placed cs left) c.in_ok-place.ensures ∙ sym (ap (fold placed (map change_in c.loop-one.changes.items)) c.in-Some.ensures.steps.0) ∙ c.loop-one.invariant

pub returns : goal.returns
returns c =
    let it = c.loop-one.one-iterator.rest in
    let none : it.items ≡ [] = nil_from_length it.items (omega (arith, it.ok.0, c.in-None.ensures.steps.0)) in
    sym (ap (fold placed (map change_in c.loop-one.changes.items)) none) ∙ c.loop-one.invariant
