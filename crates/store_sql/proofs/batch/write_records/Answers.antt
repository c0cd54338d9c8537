use Rattle.std.proofs.Common.{◌∷◌, ap, ◌∙◌, rules}
use Rattle.store_sql.specs.Statements.{with_each, with_record, without_records}
use Rattle.store_sql.proofs.TransactionParts.{part_then, part_same, on_part, rest_of, the_rest, replaced_first}
use Rattle.store_sql.proofs.batch.write_records.Goals as goal

pub returns-in_default-clause-part : goal.returns-in_default-clause-part
returns-in_default-clause-part g c =
    on_part c.insert_rows.result _ _ (λ last. part_then _ _ _ (without_records c.args.removed.now) (with_each with_record c.args.added.now) c.in_ok-delete_records.ensures.part last) c.insert_rows.ensures.part

pub returns-clause-part : goal.returns-clause-part
returns-clause-part g c =
    let gone = c.gone-item.result in
    let new = c.new-item.result in
    let removed = the_rest c.args.removed.now gone (search rules) c.gone-item.is in
    let added = the_rest c.args.added.now new (search rules) c.new-item.is in
    on_part c.insert_rows-2.result _ _ (λ last. part_same _ _ _ _ (λ rows. replaced_first gone (rest_of c.args.removed.now) new (rest_of c.args.added.now) rows ∙ ap (λ l. with_each with_record (new ∷ rest_of c.args.added.now) (without_records l rows)) removed ∙ ap (λ l. with_each with_record l (without_records c.args.removed.now rows)) added)
    (part_then _ _ _ _ _ (part_then _ _ _ _ _ c.in_ok-delete_records-2.ensures.part c.in_ok-replace_record.ensures.part) last)) c.insert_rows-2.ensures.part
