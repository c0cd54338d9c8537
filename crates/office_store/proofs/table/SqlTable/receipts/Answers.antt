use Rattle.std.proofs.Common.{rules}
use Rattle.office_store.proofs.ShelfLemmas.{kept}
use Rattle.office_store.proofs.table.SqlTable.receipts.Goals as goal

pub invariant_of-self : goal.invariant_of-self
invariant_of-self g c = search (rules, kept)
