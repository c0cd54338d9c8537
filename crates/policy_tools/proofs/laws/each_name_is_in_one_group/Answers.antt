use Rattle.policy_tools.proofs.NameGroupLemmas.{one_group}
use Rattle.policy_tools.proofs.laws.each_name_is_in_one_group.Goals as goal

pub returns : goal.returns
returns c = one_group
