use Rattle.std.proofs.Common.{length}
use Rattle.answer_reach.proofs.asker.+are_granted_under.Given as goal

abbrev pub decreases-are_granted_under : goal.decreases-are_granted_under
decreases-are_granted_under l = length l.rules.now
