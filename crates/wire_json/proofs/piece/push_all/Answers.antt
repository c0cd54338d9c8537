use Rattle.std.proofs.Common.{◌<◌, length, arith}
use Rattle.std.proofs.lemmas.Result.{err_from_is_err_and}
use Rattle.wire_json.proofs.AppendLemmas.{no_room}
use Rattle.wire_json.proofs.piece.push_all.Goals as goal

pub returns-in_err-extend_from_slice-clause-full : goal.returns-in_err-extend_from_slice-clause-full
returns-in_err-extend_from_slice-clause-full c =
    let l = c.loop-piece in
    let p = err_from_is_err_and c.from_residual.result c.from_residual.ensures.1 in
    let lt : l.piece-index < length c.args.pieces.now = omega arith in
    rw p.1 (no_room c.args.pieces.now l.piece-index _ c.args.out.now.items l.out.items _ _ l.out.len lt l.invariant.room l.out.ok.0 l.invariant.pushed c.in_err-extend_from_slice.ensures.full)
