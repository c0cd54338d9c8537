use Rattle.std.proofs.Common.{[], ◌∷◌, ◌++◌, refl}
use Rattle.sqlite.specs.Held.{state}
use Rattle.store_sql.specs.Tables.{stored_change}
use Rattle.store_sql.specs.Statements.{with_change, with_each}
use Rattle.store_sql.proofs.BatchTexts as the
use Rattle.store_sql.proofs.Texts.{terms_7_two}
use Rattle.store_sql.proofs.StatementLemmas.{inserts_changes, bound_two}
use Rattle.store_sql.proofs.TransactionParts.{part_from}
use Rattle.store_sql.proofs.batch.ChangeRowInsertRows.insert_two.Goals as goal

pub returns-clause-part : goal.returns-clause-part
returns-clause-part g c =
    let old = state g.S.Store c.args.tx.now.conn.now in
    let new = state g.S.Store c.run.new.tx.conn.now in
    let first = c.args.first.now in
    let second = c.args.second.now in
    let params = stored_change first ++ stored_change second in
    part_from the.insert_two_changes_text params old new (with_each with_change (first ∷ second ∷ [])) c.run.result c.run.ensures.stays (λ clean. rw (c.as_flattened.ensures.value, bound_two _ _ _ _ c.values.ensures.value c.values-2.ensures.value) at (c.run.ensures.ran clean))
    (λ n rows it h. inserts_changes the.insert_two_changes_text params terms_7_two old new (first ∷ second ∷ []) n rows the.insert_two_changes_plain the.insert_two_changes_is refl (c.values.ensures.readable, (c.values-2.ensures.readable, tt)) it h)
