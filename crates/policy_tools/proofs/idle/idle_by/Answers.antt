use Rattle.policy_tools.proofs.idle.idle_by.Goals as goal

pub idle_of-requires-clause-rows : goal.idle_of-requires-clause-rows
idle_of-requires-clause-rows c = rw c.deref.ensures.value c.in_ok-rows.ensures.rows
