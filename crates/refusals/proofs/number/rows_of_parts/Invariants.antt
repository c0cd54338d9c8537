use Rattle.std.proofs.Common.{◌≡◌, map}
use Rattle.refusals.specs.declared.row.NumberPlace.TheVariants.{Start}
use Rattle.refusals.specs.Tables.{row_of}
use Rattle.refusals.specs.Numbers.{rows_from}
use Rattle.refusals.proofs.NumberLemmas.{parts_from, with_front}
use Rattle.refusals.proofs.number.rows_of_parts.Given as goal

abbrev pub invariant-loop-part : goal.invariant-loop-part
invariant-loop-part l =
    rows_from (map row_of l.all) Start (map (λ part. part.now) l.parts) ≡ with_front (map row_of l.found.items) (rows_from (map row_of l.all) l.place (parts_from l.parts l.part-index))
