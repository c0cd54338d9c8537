use Rattle.std.proofs.Common.{length}
use Rattle.answer_reach.proofs.differing.+rows_differ.Given as goal

abbrev pub decreases-rows_differ : goal.decreases-rows_differ
decreases-rows_differ l = length l.a.now
