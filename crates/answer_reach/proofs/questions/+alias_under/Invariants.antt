use Rattle.std.proofs.Common.{length}
use Rattle.answer_reach.proofs.questions.+alias_under.Given as goal

abbrev pub decreases-alias_under : goal.decreases-alias_under
decreases-alias_under l = length l.above.now
