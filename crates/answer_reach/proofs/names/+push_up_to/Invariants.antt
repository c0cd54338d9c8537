use Rattle.std.proofs.Common.{length}
use Rattle.answer_reach.proofs.names.+push_up_to.Given as goal

abbrev pub decreases-push_up_to : goal.decreases-push_up_to
decreases-push_up_to l = length l.name.now
