-- One tactic for what the call requires, so that a wrong body is refused soon.
use Rattle.std.proofs.Common.{rules}
use Rattle.refuse_core.proofs.tables.commit_receipt.Goals as goal

pub commit-requires : goal.commit-requires
commit-requires c = search rules
