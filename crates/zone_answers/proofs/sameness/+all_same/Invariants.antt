use Rattle.std.proofs.Common.{length}
use Rattle.zone_answers.proofs.sameness.+all_same.Given as goal

abbrev pub decreases-all_same : goal.decreases-all_same
decreases-all_same l = length l.a.now
