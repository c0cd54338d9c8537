use Rattle.std.proofs.Common.{length}
use Rattle.answer_reach.proofs.asker.Asker.+is_whole_at.Given as goal

abbrev pub decreases-is_whole_at : goal.decreases-is_whole_at
decreases-is_whole_at l = length l.name.now
