use Rattle.std.proofs.Common.{[], ◌∷◌, ◌++◌, refl}
use Rattle.sqlite.specs.Held.{state}
use Rattle.store_sql.specs.Tables.{stored_record}
use Rattle.store_sql.specs.Statements.{with_record, with_each}
use Rattle.store_sql.proofs.BatchTexts as the
use Rattle.store_sql.proofs.Texts.{terms_6_two}
use Rattle.store_sql.proofs.StatementLemmas.{inserts_records, bound_two}
use Rattle.store_sql.proofs.TransactionParts.{part_from}
use Rattle.store_sql.proofs.batch.RecordRowInsertRows.insert_two.Goals as goal

pub returns-clause-part : goal.returns-clause-part
returns-clause-part g c =
    let old = state g.S.Store c.args.tx.now.conn.now in
    let new = state g.S.Store c.run.new.tx.conn.now in
    let first = c.args.first.now in
    let second = c.args.second.now in
    let params = stored_record first ++ stored_record second in
    part_from the.insert_two_records_text params old new (with_each with_record (first ∷ second ∷ [])) c.run.result c.run.ensures.stays (λ clean. rw (c.as_flattened.ensures.value, bound_two _ _ _ _ c.values.ensures.value c.values-2.ensures.value) at (c.run.ensures.ran clean))
    (λ n rows it h. inserts_records the.insert_two_records_text params terms_6_two old new (first ∷ second ∷ []) n rows the.insert_two_records_plain the.insert_two_records_is refl (c.values.ensures.readable, (c.values-2.ensures.readable, tt)) it h)
