-- One tactic for what the function ensures, so that a wrong body is refused soon.
use Rattle.std.proofs.Common.{rules}
use Rattle.refuse_store.proofs.stores.adopt.Goals as goal

pub returns-in-Ok : goal.returns-in-Ok
returns-in-Ok c = search rules
