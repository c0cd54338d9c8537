-- One tactic for what the function ensures, so that a wrong body is refused soon.
use Rattle.std.proofs.Common.{rules}
use Rattle.refuse_store.proofs.tables.remove_zone.Goals as goal

pub returns : goal.returns
returns c = search rules
