use Rattle.std.proofs.Common.{◌∙◌, [], ◌∷◌, codes, get_or, ap, sym, arith}
use Rattle.sqlite_schema.specs.declared.schema.Table.{Table}
use Rattle.store_sql.specs.Tables.{keyed}
use Rattle.store_sql.proofs.WholeTables.{five}
use Rattle.store_sql.proofs.schema.is_receipts.Goals as goal

pub returns : goal.returns
returns c =
    let same = five c.as_slice.result.now c.caller-item.result c.id-item.result c.origin-item.result c.request-item.result c.reply-item.result (omega arith) (omega arith) c.caller-item.is c.id-item.is c.origin-item.is c.request-item.is c.reply-item.is in
    let one = c.is_strict.ensures.0 c.if-not-is_strict.false in
    let two = c.is_strict-2.ensures.0 c.if-not-is_strict-2.false in
    let three = c.is_strict-3.ensures.0 c.if-not-is_strict-3.false in
    let four = c.is_strict-4.ensures.0 c.if-not-is_strict-4.false in (
      (λ last.
          let all_five = c.is_strict-5.ensures.0 last in
          let table = c.is_table.ensures.0 c.if-not-is_table.false in
          let is = table ∙ ap (λ cs. keyed (codes "receipts") c.receipts.result cs (1 ∷ 2 ∷ [])) (sym c.as_slice.ensures ∙ (rw (one, two, three, four, all_five) at same)) in
          rw c.receipts.ensures.tree at is),
      (λ e. c.is_strict-5.ensures.1 (ap (λ l. get_or l 4 c.reply-item.result) (sym same ∙ c.as_slice.ensures ∙ ap (λ (t : Table). t.columns) e))),
    )
