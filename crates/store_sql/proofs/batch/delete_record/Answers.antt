use Rattle.sqlite.specs.Held.{state}
use Rattle.store_sql.specs.Statements.{without_record}
use Rattle.store_sql.proofs.BatchTexts.{delete_record_text}
use Rattle.store_sql.proofs.StatementLemmas.{deletes_record, key_of}
use Rattle.store_sql.proofs.TransactionParts.{part_from}
use Rattle.store_sql.proofs.batch.delete_record.Goals as goal

pub returns-clause-part : goal.returns-clause-part
returns-clause-part g c =
    let old = state g.S.Store c.args.tx.now.conn.now in
    let new = state g.S.Store c.run.new.tx.conn.now in
    let k = c.args.gone.now in
    part_from delete_record_text (key_of k) old new (without_record k) c.run.result c.run.ensures.stays
    (λ clean. rw (← c.gone.view_is) (rw (c.params-to_sql.ensures, c.params-to_sql-2.ensures, c.params-to_sql-3.ensures, c.params-to_sql-4.ensures, c.as_str.ensures.value, c.as_str-2.ensures.value, c.as_str-3.ensures.value) at (c.run.ensures.ran clean)))
    (λ n rows it h. deletes_record old new k n rows it h)
