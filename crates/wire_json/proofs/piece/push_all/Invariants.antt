use Rattle.std.proofs.Common.{◌≡◌, ◌++◌, ◌≤◌, take}
use Rattle.std.specs.List.{flat_map}
use Rattle.std.specs.Vec.{vec_capacity}
use Rattle.wire_json.proofs.piece.push_all.Given as goal

abbrev pub invariant-loop-piece : goal.invariant-loop-piece
invariant-loop-piece l = record {
  pushed : l.out.items ≡ l.fn.out.items ++ flat_map (λ piece. piece.now) (take l.piece-index l.pieces);
  room : vec_capacity l.fn.out ≤ vec_capacity l.out;
}
