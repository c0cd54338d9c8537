use Rattle.std.proofs.Common.{length}
use Rattle.answer_reach.proofs.asker.Asker.+are_whole_at.Given as goal

abbrev pub decreases-are_whole_at : goal.decreases-are_whole_at
decreases-are_whole_at l = length l.names.now
