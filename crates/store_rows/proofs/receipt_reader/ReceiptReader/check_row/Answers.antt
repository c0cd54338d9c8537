use Rattle.store_rows.proofs.StateChecks.{row_is}
use Rattle.store_rows.proofs.receipt_reader.ReceiptReader.check_row.Goals as goal

pub returns : goal.returns
returns c = let read = c.in_ok-_read._read in let found = c.in_ok-_read.ensures.found in row_is c.args.row.now read.0 read.1 read.2 found.0 found.1
