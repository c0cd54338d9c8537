use Rattle.std.proofs.Common.{length}
use Rattle.answer_reach.proofs.names.+within_any.Given as goal

abbrev pub decreases-within_any : goal.decreases-within_any
decreases-within_any l = length l.name.now
