use Rattle.std.specs.Prelude.{string_bytes}
use Rattle.std.proofs.lemmas.Str.{IsUtf8-string_bytes}
use Rattle.serde_json.specs.View.{view}
use Rattle.wire_json.proofs.UpdateTextLaws.{text_is, text_read}
use Rattle.wire_json.proofs.update_body.update_text.Goals as goal

pub returns-clause-canonical : goal.returns-clause-canonical
returns-clause-canonical c =
    let made = c.in_ok-update_value.ensures in
    let text = c.in_ok-text.text in
    text_is c.args.id.now c.args.update.now (view c.in_ok-update_value.field-0) (string_bytes text) made.value c.in_ok-text.ensures.text

pub returns-clause-again : goal.returns-clause-again
returns-clause-again c =
    let made = c.in_ok-update_value.ensures in
    let text = c.in_ok-text.text in
    text_read c.args.id.now c.args.update.now (view c.in_ok-update_value.field-0) (string_bytes text) made.identifier made.update (IsUtf8-string_bytes text) made.value c.in_ok-text.ensures.reads_back
