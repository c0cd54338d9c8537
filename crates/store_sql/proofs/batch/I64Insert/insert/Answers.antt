use Rattle.sqlite.specs.Held.{state}
use Rattle.store_sql.specs.Tables.{stored_version}
use Rattle.store_sql.specs.Stores.{IsReadableRow}
use Rattle.store_sql.specs.Statements.{with_version}
use Rattle.store_sql.proofs.BatchTexts.{insert_meta_text}
use Rattle.store_sql.proofs.StatementLemmas.{inserts_meta}
use Rattle.store_sql.proofs.TransactionParts.{part_from}
use Rattle.store_sql.proofs.batch.I64Insert.insert.Goals as goal

pub returns-clause-part : goal.returns-clause-part
returns-clause-part g c =
    let old = state g.S.Store c.args.tx.now.conn.now in
    let new = state g.S.Store c.run.new.tx.conn.now in
    let k = c.args.self.now in
    let readable : IsReadableRow (stored_version k) = (tt, tt) in
    part_from insert_meta_text (stored_version k) old new (with_version k) c.run.result c.run.ensures.stays
    (λ clean. (rw c.params-to_sql.ensures at (c.run.ensures.ran clean)))
    (λ n rows it h. inserts_meta old new k n rows readable it h)
