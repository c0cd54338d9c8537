-- One tactic for what the function ensures, so that a wrong body is refused soon.
use Rattle.std.proofs.Common.{arith}
use Rattle.std.proofs.lemmas.Grind.{common_steps}
use Rattle.refuse_core.proofs.policies.+first_match.Goals as goal

pub returns-then-matches : goal.returns-then-matches
returns-then-matches t c = grind (arith, common_steps)

pub returns-else-matches : goal.returns-else-matches
returns-else-matches t c = grind (arith, common_steps)
