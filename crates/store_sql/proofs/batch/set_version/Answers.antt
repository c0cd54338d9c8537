use Rattle.std.proofs.Common.{[], Ok, rules}
use Rattle.std.specs.Int.{w64}
use Rattle.std.specs.Prelude.{FitsSigned}
use Rattle.std.proofs.lemmas.Int.{to_z-of_z}
use Rattle.sqlite.specs.Held.{state}
use Rattle.store_sql.specs.Rows.{RowsOf}
use Rattle.store_sql.specs.Statements.{with_version}
use Rattle.store_sql.proofs.BatchTexts.{delete_meta_text}
use Rattle.store_sql.proofs.StatementLemmas.{deletes_meta}
use Rattle.store_sql.proofs.TransactionParts.{part_from, part_then, stays_then, on_part}
use Rattle.store_sql.proofs.batch.set_version.Goals as goal

pub returns-clause-part : goal.returns-clause-part
returns-clause-part g c =
    let old = state g.S.Store c.args.tx.now.conn.now in
    let mid = state g.S.Store c.run.new.tx.conn.now in
    let new = state g.S.Store c.insert.new.tx.conn.now in
    let emptied = λ (rows : RowsOf). let r : RowsOf = record rows { versions = [] } in r in
    let one = part_from delete_meta_text [] old mid emptied (Ok (tt {0})) c.run.ensures.stays c.in_ok-run.ensures.ran (λ n rows it h. deletes_meta old mid n rows it h) in
    let fits : FitsSigned w64 c.in-Some.version = search rules in
    rw c.in-Some.is
    (on_part c.insert.result _ _ (λ two. part_then old mid new emptied (with_version c.in-Some.version) one two) (rw (to_z-of_z w64 c.in-Some.version fits) at c.insert.ensures.part))

pub returns-clause-stays : goal.returns-clause-stays
returns-clause-stays g c = stays_then _ _ _ c.run.ensures.stays c.insert.ensures.stays
