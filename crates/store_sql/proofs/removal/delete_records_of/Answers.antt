use Rattle.std.proofs.Common.{[], ◌∷◌}
use Rattle.sqlite_value.specs.declared.value.Value.TheVariants.{Text}
use Rattle.sqlite.specs.Held.{state}
use Rattle.store_sql.specs.Statements.{without_records_of}
use Rattle.store_sql.proofs.BatchTexts.{delete_records_of_text}
use Rattle.store_sql.proofs.Removals.{deletes_records_of}
use Rattle.store_sql.proofs.TransactionParts.{part_from}
use Rattle.store_sql.proofs.removal.delete_records_of.Goals as goal

pub returns-clause-part : goal.returns-clause-part
returns-clause-part g c =
    let old = state g.S.Store c.args.tx.now.conn.now in
    let new = state g.S.Store c.run.new.tx.conn.now in
    let origin = c.args.origin.now in
    part_from delete_records_of_text (Text origin ∷ []) old new (without_records_of origin) c.run.result c.run.ensures.stays (λ clean. rw c.params-to_sql.ensures at (c.run.ensures.ran clean)) (λ n rows it h. deletes_records_of old new origin n rows it h)
