use Rattle.std.proofs.Common.{length}
use Rattle.answer_reach.proofs.asker.Asker.+wildcards_may_change.Given as goal

abbrev pub decreases-wildcards_may_change : goal.decreases-wildcards_may_change
decreases-wildcards_may_change l = length l.name.now
