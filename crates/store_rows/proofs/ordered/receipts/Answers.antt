use Rattle.std.proofs.Common.{List, IsPermutation, subst}
use Rattle.store_rows.specs.declared.ordered.ReceiptKey.{ReceiptKey}
use Rattle.store_rows.proofs.ordered.receipts.Goals as goal

pub returns-clause-found : goal.returns-clause-found
returns-clause-found c =
    let new = c.in_ok-sorted.field-0.items in
    let found = c.in_ok-keys.ensures.found in
    let sorted = c.in_ok-sorted.ensures in
    (subst (λ (l : List ReceiptKey). IsPermutation l new) found.0 sorted.0, found.1, sorted.1)
