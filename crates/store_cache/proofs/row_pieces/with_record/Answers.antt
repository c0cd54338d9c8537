use Rattle.std.proofs.Common.{rules, ◌≡◌, ◌<◌, IfOk, length, get_or, slice_set, subst}
use Rattle.std.specs.Ordering.{is_lt}
use Rattle.zone_core.specs.Sets.{record_order}
use Rattle.store_cache.specs.RowPieces.{flat, ArePieces, IsPlaceAmong, last_passes, placed}
use Rattle.store_cache.proofs.PieceLemmas.{are_cut, pieces_among, single_piece}
use Rattle.store_cache.proofs.row_pieces.with_record.Goals.{In-Some, In_ok-put_record}
use Rattle.store_cache.proofs.row_pieces.with_record.Goals as goal

pub returns-in_default-clause-pieces : goal.returns-in_default-clause-pieces
returns-in_default-clause-pieces c =
    single_piece c.in_ok-vec-2.field-0.items c.in_ok-vec.field-0 c.in_ok-try_copy.field-0 (search rules) (search rules)

inside : (c : In-Some) → c.place_among-place.result < length c.args.pieces.items
inside c = search rules

there : (c : In-Some) → c.in-Some.piece.now ≡ get_or c.args.pieces.items c.place_among-place.result c.in-Some.piece.now
there c = search rules

pub put_record-requires : goal.put_record-requires
put_record-requires c =
    let parts = are_cut c.args.pieces.items c.place_among-place.result c.in-Some.piece.now c.requires (inside c) (there c) in parts.order

among : (c : In_ok-put_record) → ArePieces (slice_set c.args.pieces.items c.place_among-place.result c.put_record.new.rows)
    × (flat (slice_set c.args.pieces.items c.place_among-place.result c.put_record.new.rows) ≡ placed c.args.rr.now (flat c.args.pieces.items))
among c =
    let r = c.args.rr.now in
    pieces_among r c.args.pieces.items c.place_among-place.result c.in-Some.piece.now c.requires
    (subst (λ vs. IsPlaceAmong (λ v. last_passes (λ x. is_lt (record_order x r)) v.items) vs c.place_among-place.result) c.deref.ensures.value c.place_among-place.ensures)
    (search rules) (search rules) c.put_record.new.rows c.in_ok-put_record.ensures

pub with_cut-requires : goal.with_cut-requires
with_cut-requires c = (among c).0

pub returns-clause-rows : goal.returns-clause-rows
returns-clause-rows c = subst (λ l. IfOk c.with_cut.result (λ ps. flat ps.items ≡ l)) (among (goal.at.returns-clause-rows c).In_ok-put_record).1 c.with_cut.ensures.rows
