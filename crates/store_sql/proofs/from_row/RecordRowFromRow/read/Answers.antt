use Rattle.std.proofs.Common.{drop, sym, subst, rules}
use Rattle.std.specs.Int.{w64}
use Rattle.std.specs.Prelude.{FitsSigned}
use Rattle.std.proofs.lemmas.Int.{to_z-of_z}
use Rattle.store_sql.specs.Stores.{IsReadableRow}
use Rattle.store_sql.proofs.RowLemmas.{six}
use Rattle.store_sql.proofs.from_row.RecordRowFromRow.read.Goals as goal

pub returns-clause-found : goal.returns-clause-found
returns-clause-found c =
    let one : FitsSigned w64 c.in_ok-number_at.field-0 = search rules in
    let two : FitsSigned w64 c.in_ok-number_at-2.field-0 = search rules in
    let origin = c.in_ok-text_at.ensures.found in
    let owner = c.in_ok-text_at-2.ensures.found in
    let kind = c.in_ok-number_at.ensures.found in
    let words = c.in_ok-text_at-3.ensures.found in
    let ttl = c.in_ok-number_at-2.ensures.found in
    let key = c.in_ok-key_at.ensures.found in
    let same = six (drop c.args.first c.args.row.now) _ _ _ _ _ _ (search rules) origin.1 owner.1 kind.1 words.1 ttl.1 key.1 in
    (rw (to_z-of_z w64 c.in_ok-number_at.field-0 one, to_z-of_z w64 c.in_ok-number_at-2.field-0 two) same, subst IsReadableRow (sym same) (origin.2, (owner.2, (tt, (words.2, (tt, (tt, tt)))))))
