use Rattle.policy_tools.proofs.name_groups.add_below_at.Goals as goal

pub add_group-requires-clause-among : goal.add_group-requires-clause-among
add_group-requires-clause-among c = rw c.in_ok-try_copy.ensures c.requires.among

pub add_group-requires-clause-alike : goal.add_group-requires-clause-alike
add_group-requires-clause-alike c = rw c.in_ok-try_copy.ensures c.requires.alike

pub returns : goal.returns
returns c = rw c.in_ok-try_copy.ensures at c.add_group.ensures
