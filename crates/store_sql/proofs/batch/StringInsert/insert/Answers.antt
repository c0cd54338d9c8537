use Rattle.std.proofs.Common.{string_bytes}
use Rattle.sqlite.specs.Held.{state}
use Rattle.store_sql.specs.Tables.{stored_zone}
use Rattle.store_sql.specs.Stores.{IsReadableRow}
use Rattle.store_sql.specs.Statements.{with_zone}
use Rattle.store_sql.proofs.BatchTexts.{insert_zones_text}
use Rattle.store_sql.proofs.StatementLemmas.{inserts_zones}
use Rattle.store_sql.proofs.TransactionParts.{part_from}
use Rattle.store_sql.proofs.batch.StringInsert.insert.Goals as goal

pub returns-clause-part : goal.returns-clause-part
returns-clause-part g c =
    let old = state g.S.Store c.args.tx.now.conn.now in
    let new = state g.S.Store c.run.new.tx.conn.now in
    let k = string_bytes c.args.self.now in
    let readable : IsReadableRow (stored_zone k) = (rw c.as_str.ensures.value at c.as_str.utf8, tt) in
    part_from insert_zones_text (stored_zone k) old new (with_zone k) c.run.result c.run.ensures.stays
    (λ clean. (rw (c.params-to_sql.ensures, c.as_str.ensures.value) at (c.run.ensures.ran clean)))
    (λ n rows it h. inserts_zones old new k n rows readable it h)
