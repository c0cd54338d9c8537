use Rattle.std.proofs.Common.{◌≡◌}
use Rattle.std.specs.List.{flat_map}
use Rattle.office_model.specs.Tables.{included}
use Rattle.store_cache.proofs.row_pieces.RowPieces.included_within.Given as goal

-- those of the parts so far
abbrev pub invariant-loop-rows : goal.invariant-loop-rows
invariant-loop-rows l = record {
  same : l.grants ≡ l.fn.grants;
  found : l.found.items ≡ included l.fn.grants (flat_map (λ part. part.now) l.yielded);
}
