use Rattle.std.proofs.Common.{[], ◌∷◌}
use Rattle.zone_core.specs.Rcodes.{rcode_text}
use Rattle.zone_answers.specs.Views.{answer_of}
use Rattle.cli_text.specs.QuestionViews.{question_view}
use Rattle.cli_text.specs.AnswerObjects.{answer_object, sections_text, question_members}
use Rattle.cli_text.proofs.AnswerObjectLemmas.{object_is, object_ends}
use Rattle.cli_text.proofs.answer_object.push_object.Goals as goal

pub returns : goal.returns
returns c =
    let q = question_view c.args.question.now in
    let a = answer_of c.args.answer.now in
    object_ends c.args.text.now.items (sections_text a) (question_members q (rcode_text a.code)) (answer_object q a) (10 ∷ []) c.push_sections.new.text.items c.push_members.new.text.items c.push.new.self.items
    c.in_ok-push_sections.ensures (rw c.text.ensures at c.in_ok-push_members.ensures) c.in_ok-push.ensures.items (object_is q a)
