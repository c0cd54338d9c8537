use Rattle.zone_core.proofs.PositionLemmas.{AreOnTheWay}
use Rattle.zone_core.proofs.sorting.arranged.Given as goal

abbrev pub invariant-loop-i : goal.invariant-loop-i
invariant-loop-i l = AreOnTheWay l.fn.records.items l.fn.sources.items l.records.items l.sources.items l.positions.items l.i
