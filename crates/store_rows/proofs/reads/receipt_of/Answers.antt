use Rattle.store_rows.specs.RowReading.{receipt_by}
use Rattle.store_rows.proofs.RowSteps.{done, reads_same}
use Rattle.store_rows.proofs.ReceiptReadLemmas.{receipts_stored}
use Rattle.store_rows.proofs.reads.receipt_of.Goals as goal

pub returns-clause-held : goal.returns-clause-held
returns-clause-held c = λ version all s caller id st same.
    reads_same (λ receipt. receipt) c.receipt_by.result (receipt_by c.args.rows.now) (done (s.receipts caller id)) (receipts_stored version all s st caller id c.args.rows.now same) c.receipt_by.ensures
