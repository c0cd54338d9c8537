use Rattle.policy_tools.proofs.name_groups.add_exactly.Goals as goal

pub returns : goal.returns
returns c = rw c.in_ok-try_copy.ensures at c.add_group.ensures
