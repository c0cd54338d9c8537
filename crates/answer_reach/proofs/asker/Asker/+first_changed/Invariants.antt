use Rattle.std.proofs.Common.{length}
use Rattle.answer_reach.proofs.asker.Asker.+first_changed.Given as goal

abbrev pub decreases-first_changed : goal.decreases-first_changed
decreases-first_changed l = length l.types.now
