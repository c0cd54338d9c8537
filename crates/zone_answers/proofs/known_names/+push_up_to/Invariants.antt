use Rattle.std.proofs.Common.{length}
use Rattle.zone_answers.proofs.known_names.+push_up_to.Given as goal

abbrev pub decreases-push_up_to : goal.decreases-push_up_to
decreases-push_up_to l = length l.name.now
