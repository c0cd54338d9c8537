use Rattle.std.proofs.Common.{◌∙◌, ◌+◌, ap, map, take}
use Rattle.cli_updates.specs.Slots.{lent, slots_view}
use Rattle.cli_updates.specs.Filling.{piece_view}
use Rattle.cli_updates.specs.Pieces.{tests_piece}
use Rattle.cli_updates.proofs.PieceLemmas.{pushed, slot_next}
use Rattle.cli_updates.proofs.pieces.push_tests.Goals as goal

pub loop-slot-preserved : goal.loop-slot-preserved
loop-slot-preserved c =
    let l = c.loop-slot in
    let f = tests_piece c.args.scale.now.id.now in
    let slots = c.args.slots.now in
    let x = c.slot-item.result in
    pushed piece_view (map piece_view c.args.pieces.now.items) (map f (slots_view (take l.slot-index slots))) (map f (slots_view (take (l.slot-index + 1) slots)))
    l.pieces.items c.push.new.self.items c.in_ok-tests_piece.field-0 (f (lent x.items)) c.in_ok-push.ensures.items l.invariant
    (c.in_ok-tests_piece.ensures ∙ ap (λ v. f (lent v)) c.deref.ensures.value) (slot_next f slots l.slot-index x c.loop-slot-test.true c.slot-item.is)
