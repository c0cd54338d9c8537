use Rattle.std.proofs.Common.{◌≡◌, map, take}
use Rattle.cli_text.specs.Answer.{answers_text}
use Rattle.cli_text.specs.QuestionViews.{question_view}
use Rattle.cli_text.proofs.answer.answers_text.Given as goal

-- the answers so far
abbrev pub invariant-loop-question : goal.invariant-loop-question
invariant-loop-question l = l.text.items ≡ answers_text l.form l.index (map question_view (take l.question-index l.questions))
