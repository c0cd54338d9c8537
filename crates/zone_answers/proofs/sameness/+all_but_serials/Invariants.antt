use Rattle.std.proofs.Common.{length}
use Rattle.zone_answers.proofs.sameness.+all_but_serials.Given as goal

abbrev pub decreases-all_but_serials : goal.decreases-all_but_serials
decreases-all_but_serials l = length l.a.now
