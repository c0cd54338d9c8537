use Rattle.std.proofs.Common.{rules, arith}
use Rattle.std.specs.Ordering.{is_lt}
use Rattle.std.proofs.lemmas.List.Sorted.{IsPartitionPoint-from_clause}
use Rattle.zone_core.specs.Sets.{record_order}
use Rattle.store_cache.specs.RowPieces.{last_passes}
use Rattle.store_cache.proofs.PieceLemmas.{lt_then, parted_pieces, place_is}
use Rattle.store_cache.proofs.row_pieces.place_of.Goals as goal

pub returns : goal.returns
returns c =
    let r = c.args.rr.now in
    let pieces = c.args.pieces.now in
    let i = c.partition_point.result in
    let parts =
    IsPartitionPoint-from_clause (λ v. last_passes (λ x. is_lt (record_order x r)) v.items) pieces i c.partition_point.ensures.partitioned
    (parted_pieces (λ x. is_lt (record_order x r)) pieces (λ x y less. lt_then x y r less) c.requires.order c.requires.some) (λ a b q k. search rules) in
    place_is (λ v. last_passes (λ x. is_lt (record_order x r)) v.items) pieces i c.partition_point.ensures.bound (λ k d h. parts.0 k d (omega arith) h) (λ k d h j. parts.1 k d h j)
