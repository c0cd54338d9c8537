use Rattle.store_rows.proofs.ReceiptRowLaws as law
use Rattle.store_rows.proofs.laws.receipt_rows_are_apart.Goals as goal

pub returns : goal.returns
returns c = law.receipt_rows_are_apart
