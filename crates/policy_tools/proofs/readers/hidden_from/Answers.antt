use Rattle.policy_tools.proofs.ReaderLemmas.{exactly_hidden}
use Rattle.policy_tools.proofs.readers.hidden_from.Goals as goal

pub returns-clause-listed : goal.returns-clause-listed
returns-clause-listed c = rw (← c.rules.ensures.rules) (exactly_hidden c.rules.result.now c.args.caller.now c.args.origin.now c.hidden_by.result c.hidden_by.ensures)
