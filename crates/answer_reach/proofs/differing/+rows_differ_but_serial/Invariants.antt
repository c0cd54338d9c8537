use Rattle.std.proofs.Common.{length}
use Rattle.answer_reach.proofs.differing.+rows_differ_but_serial.Given as goal

abbrev pub decreases-rows_differ_but_serial : goal.decreases-rows_differ_but_serial
decreases-rows_differ_but_serial l = length l.a.now
