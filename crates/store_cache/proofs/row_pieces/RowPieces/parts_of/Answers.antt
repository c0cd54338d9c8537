use Rattle.std.proofs.Common.{rules, ◌≡◌, [], sym, ap, subst, ◌∙◌}
use Rattle.std.specs.List.{filter, flat_map}
use Rattle.zone_core.specs.Sets.{InOrder}
use Rattle.store_cache.proofs.PieceLemmas.{none_is}
use Rattle.store_cache.proofs.OwnerLemmas.{is_meant, seen_order, seen_to_end, seen_to_gap}
use Rattle.store_cache.proofs.row_pieces.RowPieces.parts_of.Goals.{Then-is_empty}
use Rattle.store_cache.proofs.row_pieces.RowPieces.parts_of.Goals as goal

pub rows_of-rows-requires : goal.rows_of-rows-requires
rows_of-rows-requires c =
    subst InOrder (sym c.deref-in-loop-piece.ensures.value)
    (seen_order c.args.owners c.self.inside.pieces.items c.deref.result.now c.deref-2.result.now c.place_of_name-start.result c.first.result.now c.self.invariant c.deref.ensures.value c.deref-2.ensures.value c.first.ensures
    c.place_of_name-start.ensures c.loop-piece.piece-index c.piece-item.result c.loop-piece-test.true c.piece-item.is)

none : (c : Then-is_empty) → filter (is_meant c.args.owners) c.piece-item.result.items ≡ []
none c = ap (filter (is_meant c.args.owners)) (sym c.deref-in-loop-piece.ensures.value) ∙ sym c.rows_of-rows.ensures ∙ none_is c.rows_of-rows.result.now (search rules)

pub returns-then-is_empty-clause-value : goal.returns-then-is_empty-clause-value
returns-then-is_empty-clause-value c =
    seen_to_gap c.args.owners c.self.inside.pieces.items c.deref.result.now c.deref-2.result.now c.place_of_name-start.result c.first.result.now c.self.invariant c.deref.ensures.value c.deref-2.ensures.value c.first.ensures
    c.place_of_name-start.ensures c.loop-piece.piece-index c.piece-item.result (flat_map (λ part. part.now) c.loop-piece.parts.items) c.loop-piece-test.true c.piece-item.is c.loop-piece.invariant (none c)
    ∙ ap (filter (is_meant c.args.owners)) c.self.view_is

pub returns-clause-value : goal.returns-clause-value
returns-clause-value c =
    seen_to_end c.args.owners c.self.inside.pieces.items c.deref.result.now c.deref-2.result.now c.place_of_name-start.result c.first.result.now c.self.invariant c.deref.ensures.value c.deref-2.ensures.value c.first.ensures
    c.place_of_name-start.ensures c.loop-piece.piece-index (flat_map (λ part. part.now) c.loop-piece.parts.items) c.loop-piece-test.false c.loop-piece.invariant
    ∙ ap (filter (is_meant c.args.owners)) c.self.view_is
