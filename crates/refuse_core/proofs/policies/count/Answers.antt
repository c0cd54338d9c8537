-- One tactic for what the function ensures, so that a wrong body is refused soon.
use Rattle.refuse_core.proofs.policies.count.Goals as goal

pub returns-clause-most : goal.returns-clause-most
returns-clause-most c = search

pub returns-clause-least : goal.returns-clause-least
returns-clause-least c = search
