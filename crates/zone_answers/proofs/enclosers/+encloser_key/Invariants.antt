use Rattle.std.proofs.Common.{length}
use Rattle.zone_answers.proofs.enclosers.+encloser_key.Given as goal

abbrev pub decreases-encloser_key : goal.decreases-encloser_key
decreases-encloser_key l = length l.key.now
