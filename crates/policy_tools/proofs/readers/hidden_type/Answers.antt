use Rattle.policy_tools.proofs.ReaderLemmas.{hidden_first}
use Rattle.policy_tools.proofs.readers.hidden_type.Goals as goal

pub returns : goal.returns
returns c = hidden_first c.args.rights.now c.first_hidden.result c.first_hidden.ensures
