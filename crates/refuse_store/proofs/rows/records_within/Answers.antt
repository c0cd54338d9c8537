-- One tactic for what the function ensures, so that a wrong body is refused soon.
use Rattle.refuse_store.proofs.rows.records_within.Goals as goal

pub returns : goal.returns
returns c = search
