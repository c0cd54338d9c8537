use Rattle.std.proofs.Common.{drop}
use Rattle.std.specs.Prelude.{◌↔◌}
use Rattle.store_rows.specs.Checks.{AreRecordsInTurn}
use Rattle.store_rows.proofs.ReadZoneLemmas.{IsDone}
use Rattle.store_rows.proofs.largest_zone.largest_zone.Given as goal

-- what is left passes where all passes; and the largest zone so far is of what is done
abbrev pub invariant-loop-origin : goal.invariant-loop-origin
invariant-loop-origin l = record {
  turn : AreRecordsInTurn (drop l.origin-index l.origins) l.left ↔ AreRecordsInTurn l.fn.origins l.fn.records;
  done : IsDone l.origins l.origin-index l.fn.records l.left l.largest;
}
