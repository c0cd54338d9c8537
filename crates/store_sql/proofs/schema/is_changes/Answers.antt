use Rattle.std.proofs.Common.{◌∙◌, [], ◌∷◌, codes, get_or, ap, sym, arith}
use Rattle.sqlite_schema.specs.declared.schema.Table.{Table}
use Rattle.store_sql.specs.Tables.{keyed}
use Rattle.store_sql.proofs.WholeTables.{seven}
use Rattle.store_sql.proofs.schema.is_changes.Goals as goal

pub returns : goal.returns
returns c =
    let same = seven c.as_slice.result.now c.origin-item.result c.number-item.result c.side-item.result c.owner-item.result c.kind-item.result c.words-item.result c.ttl-item.result (omega arith) (omega arith) c.origin-item.is c.number-item.is c.side-item.is c.owner-item.is c.kind-item.is c.words-item.is c.ttl-item.is in
    let one = c.is_strict.ensures.0 c.if-not-is_strict.false in
    let two = c.is_strict-2.ensures.0 c.if-not-is_strict-2.false in
    let three = c.is_strict-3.ensures.0 c.if-not-is_strict-3.false in
    let four = c.is_strict-4.ensures.0 c.if-not-is_strict-4.false in
    let fifth = c.is_strict-5.ensures.0 c.if-not-is_strict-5.false in
    let sixth = c.is_strict-6.ensures.0 c.if-not-is_strict-6.false in (
      (λ last.
          let all = c.is_strict-7.ensures.0 last in
          let table = c.is_table.ensures.0 c.if-not-is_table.false in
          let is = table ∙ ap (λ cs. keyed (codes "changes") c.changes.result cs (1 ∷ 2 ∷ 3 ∷ 4 ∷ 5 ∷ 6 ∷ [])) (sym c.as_slice.ensures ∙ (rw (one, two, three, four, fifth, sixth, all) at same)) in
          rw c.changes.ensures.tree at is),
      (λ e. c.is_strict-7.ensures.1 (ap (λ l. get_or l 6 c.ttl-item.result) (sym same ∙ c.as_slice.ensures ∙ ap (λ (t : Table). t.columns) e))),
    )
