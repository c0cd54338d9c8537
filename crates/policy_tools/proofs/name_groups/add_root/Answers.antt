use Rattle.policy_tools.proofs.name_groups.add_root.Goals as goal

pub returns : goal.returns
returns c = rw c.in_ok-root.ensures at c.add_copy.ensures.added
