use Rattle.std.proofs.Common.{[], ◌∷◌, refl}
use Rattle.sqlite.specs.Held.{state}
use Rattle.store_sql.specs.Tables.{stored_change}
use Rattle.store_sql.specs.Statements.{with_change}
use Rattle.store_sql.proofs.BatchTexts as the
use Rattle.store_sql.proofs.Texts.{terms_7}
use Rattle.store_sql.proofs.StatementLemmas.{inserts_changes}
use Rattle.store_sql.proofs.TransactionParts.{part_from}
use Rattle.store_sql.proofs.batch.ChangeRowInsert.insert.Goals as goal

pub returns-clause-part : goal.returns-clause-part
returns-clause-part g c =
    let old = state g.S.Store c.args.tx.now.conn.now in
    let new = state g.S.Store c.run.new.tx.conn.now in
    let k = c.args.self.now in
    part_from the.insert_changes_text (stored_change k) old new (with_change k) c.run.result c.run.ensures.stays (λ clean. rw c.values.ensures.value at (c.run.ensures.ran clean))
    (λ n rows it h. inserts_changes the.insert_changes_text (stored_change k) terms_7 old new (k ∷ []) n rows the.insert_changes_plain the.insert_changes_is refl (c.values.ensures.readable, tt) it h)
