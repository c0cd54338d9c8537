use Rattle.sqlite.specs.Held.{state}
use Rattle.store_sql.specs.Tables.{stored_receipt}
use Rattle.store_sql.specs.Stores.{IsReadableRow}
use Rattle.store_sql.specs.Statements.{with_receipt}
use Rattle.store_sql.proofs.BatchTexts.{insert_receipts_text}
use Rattle.store_sql.proofs.StatementLemmas.{inserts_receipts}
use Rattle.store_sql.proofs.TransactionParts.{part_from}
use Rattle.store_sql.proofs.batch.ReceiptRowInsert.insert.Goals as goal

pub returns-clause-part : goal.returns-clause-part
returns-clause-part g c =
    let old = state g.S.Store c.args.tx.now.conn.now in
    let new = state g.S.Store c.run.new.tx.conn.now in
    let k = c.args.self.now in
    let readable : IsReadableRow (stored_receipt k) = rw (← c.self.view_is) (rw c.as_str.ensures.value at c.as_str.utf8, (rw c.as_str-2.ensures.value at c.as_str-2.utf8, (rw c.as_str-3.ensures.value at c.as_str-3.utf8, (rw c.as_str-4.ensures.value at c.as_str-4.utf8, (rw c.as_str-5.ensures.value at c.as_str-5.utf8, tt))))) in
    part_from insert_receipts_text (stored_receipt k) old new (with_receipt k) c.run.result c.run.ensures.stays
    (λ clean. rw (← c.self.view_is) (rw (c.params-to_sql.ensures, c.params-to_sql-2.ensures, c.params-to_sql-3.ensures, c.params-to_sql-4.ensures, c.params-to_sql-5.ensures, c.as_str.ensures.value, c.as_str-2.ensures.value, c.as_str-3.ensures.value, c.as_str-4.ensures.value, c.as_str-5.ensures.value) at (c.run.ensures.ran clean)))
    (λ n rows it h. inserts_receipts old new k n rows readable it h)
