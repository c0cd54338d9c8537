use Rattle.std.proofs.Common.{codes}
use Rattle.std.proofs.lemmas.Result.{on_ok_weaker}
use Rattle.wire_json.specs.Replies.{lines_value}
use Rattle.cli_text.specs.AnswerObjects.{authority_key}
use Rattle.cli_text.proofs.AnswerObjectLemmas.{three_sections}
use Rattle.cli_text.proofs.answer_object.push_sections.Goals as goal

pub returns : goal.returns
returns c =
    let a = c.args.answer.now in
    on_ok_weaker c.push_section-3.result
    (three_sections c.args.text.now.items (codes "{\"additional\":") (lines_value a.additional.items) (codes ",\"answer\":") (lines_value a.answer.items) (authority_key a.authoritative)
    (lines_value a.authority.items) c.push_section.new.text.items c.push_section-2.new.text.items c.push_section-3.new.text.items
    (rw c.deref.ensures.value at c.in_ok-push_section.ensures) (rw c.deref-2.ensures.value at c.in_ok-push_section-2.ensures))
    (rw (c.deref-3.ensures.value, c.authority_key.ensures) at c.push_section-3.ensures)
