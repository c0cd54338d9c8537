use Rattle.std.proofs.Common.{◌∙◌, ◌+◌, ap, map, drop, [], ◌∷◌}
use Rattle.std.proofs.lemmas.List.{map-append}
use Rattle.cli_updates.specs.Filling.{piece_view, part_view}
use Rattle.cli_updates.proofs.FillingLemmas.{filled_last, filled_next}
use Rattle.cli_updates.proofs.filling.parts_of.Goals as goal

pub loop-piece-preserved : goal.loop-piece-preserved
loop-piece-preserved c =
    let l = c.loop-piece in
    let pieces = c.args.pieces.now in
    let pushed = c.in_ok-push.ensures in
    let step = c.in_ok-part.ensures (map piece_view (drop (l.piece-index + 1) pieces)) in
    let next = filled_next piece_view (map part_view l.parts.items) c.args.frame l.part.octets (part_view l.part) pieces l.piece-index c.piece-item.result c.loop-piece-test.true c.piece-item.is in
    rw (pushed.items, pushed.octets) (step ∙ (next ∙ l.invariant))

pub returns : goal.returns
returns c =
    let l = c.loop-piece in
    let last = filled_last piece_view (map part_view l.parts.items) c.args.frame l.part.octets (part_view l.part) c.args.pieces.now l.piece-index c.loop-piece-test.false in
    ap (map part_view) c.in_ok-push-2.ensures.items ∙ (map-append part_view l.parts.items (l.part ∷ []) ∙ (last ∙ l.invariant))
