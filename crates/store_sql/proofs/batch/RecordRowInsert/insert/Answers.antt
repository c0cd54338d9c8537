use Rattle.std.proofs.Common.{[], ◌∷◌, refl}
use Rattle.sqlite.specs.Held.{state}
use Rattle.store_sql.specs.Tables.{stored_record}
use Rattle.store_sql.specs.Statements.{with_record}
use Rattle.store_sql.proofs.BatchTexts as the
use Rattle.store_sql.proofs.Texts.{terms_6}
use Rattle.store_sql.proofs.StatementLemmas.{inserts_records}
use Rattle.store_sql.proofs.TransactionParts.{part_from}
use Rattle.store_sql.proofs.batch.RecordRowInsert.insert.Goals as goal

pub returns-clause-part : goal.returns-clause-part
returns-clause-part g c =
    let old = state g.S.Store c.args.tx.now.conn.now in
    let new = state g.S.Store c.run.new.tx.conn.now in
    let k = c.args.self.now in
    part_from the.insert_records_text (stored_record k) old new (with_record k) c.run.result c.run.ensures.stays (λ clean. rw c.values.ensures.value at (c.run.ensures.ran clean))
    (λ n rows it h. inserts_records the.insert_records_text (stored_record k) terms_6 old new (k ∷ []) n rows the.insert_records_plain the.insert_records_is refl (c.values.ensures.readable, tt) it h)
