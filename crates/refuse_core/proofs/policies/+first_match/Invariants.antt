use Rattle.std.proofs.Common.{length}
use Rattle.refuse_core.proofs.policies.+first_match.Given as goal

abbrev pub decreases-first_match : goal.decreases-first_match
decreases-first_match l = length l.rules.now
