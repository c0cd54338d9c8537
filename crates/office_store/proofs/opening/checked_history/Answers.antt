use Rattle.std.proofs.Common.{map}
use Rattle.store_rows.specs.ChangeRows.{row_of}
use Rattle.office_store.proofs.opening.checked_history.Goals as goal

pub returns-clause-history : goal.returns-clause-history
returns-clause-history c = c.remembered.ensures (map row_of c.args.changes.items) c.in_ok-longest.ensures.longest
