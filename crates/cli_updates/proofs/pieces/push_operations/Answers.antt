use Rattle.std.proofs.Common.{◌∙◌, ◌+◌, ◌++◌, ap, map, take}
use Rattle.std.specs.List.{flat_map, zip}
use Rattle.cli_updates.specs.Octets.{bare_length, capped}
use Rattle.cli_updates.specs.Slots.{lent, slots_view}
use Rattle.cli_updates.specs.Filling.{piece_view}
use Rattle.cli_updates.specs.Pieces.{operation_pieces}
use Rattle.cli_updates.proofs.PieceLemmas.{behind_more, operation_next, zip_all}
use Rattle.cli_updates.proofs.pieces.push_operations.Goals as goal

pub loop-place-preserved : goal.loop-place-preserved
loop-place-preserved c =
    let l = c.loop-place in
    let id = c.args.scale.now.id.now in
    let f = operation_pieces id (capped (bare_length id)) in
    let slots = c.args.slots.now in
    let ops = c.args.operations.now in
    let pairs = zip (slots_view slots) ops in
    let x = c.index-slots-place.result in
    let op = c.index-operations-place.result in
    let initial = map piece_view c.args.pieces.now.items in
    let old = map piece_view l.pieces.items in
    behind_more initial (flat_map f (take l.place pairs)) old (f (lent x.items, op)) (flat_map f (take (l.place + 1) pairs))
    (map piece_view c.push_operation.new.pieces.items) l.invariant (c.in_ok-push_operation.ensures ∙ ap (λ v. old ++ f (lent v, op)) c.deref.ensures.value)
    (operation_next f slots ops l.place x op c.requires c.loop-place-test.true c.index-slots-place.is c.index-operations-place.is)

pub returns : goal.returns
returns c =
    let l = c.loop-place in
    let id = c.args.scale.now.id.now in
    let f = operation_pieces id (capped (bare_length id)) in
    l.invariant ∙ ap (λ pairs. map piece_view c.args.pieces.now.items ++ flat_map f pairs) (zip_all (slots_view c.args.slots.now) c.args.operations.now l.place c.loop-place-test.false)
