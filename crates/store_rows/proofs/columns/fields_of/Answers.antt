use Rattle.store_rows.proofs.FieldsLaws.{fields_found}
use Rattle.store_rows.proofs.columns.fields_of.Goals as goal

pub returns : goal.returns
returns c =
    let tokens = c.in_ok-tokens.tokens.items in
    fields_found c.args.text.now c.as_bytes.result.now tokens c.deref.result.now c.in_ok-entry_items.field-0.items c.as_bytes.ensures.value c.in_ok-tokens.ensures.exact c.deref.ensures.value c.in_ok-entry_items.ensures
