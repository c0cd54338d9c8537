use Rattle.std.proofs.Common.{Vec, Global, map}
use Rattle.std.proofs.lemmas.Result.{err_from_is_err_and}
use Rattle.cli_text.specs.declared.questions.Question.{Question}
use Rattle.cli_text.specs.QuestionViews.{question_view}
use Rattle.cli_text.proofs.QuestionLemmas.{entry_within, questions_more, questions_refused, viewed}
use Rattle.cli_text.proofs.questions.questions_in.Goals as goal

pub loop-at-preserved : goal.loop-at-preserved
loop-at-preserved c =
    let l = c.loop-at in
    let next = viewed l.questions.items c.push_question.new.questions.items c.in_ok-question.question c.in_ok-push_question.ensures in
    record {
      within = entry_within _ _ c.args.tokens.now c.split_at.result.1.now l.at c.entry_len-len.result _ c.loop-at-test.true c.split_at.ensures.back c.entry_len-len.ensures l.invariant.read;
      read = questions_more _ _ c.args.tokens.now c.split_at.result.1.now l.at c.entry_len-len.result _ c.loop-at-test.true c.split_at.ensures.back c.entry_len-len.ensures l.invariant.read (question_view c.in_ok-question.question) _ c.in_ok-question.ensures next;
    }

pub returns-in_err-question : goal.returns-in_err-question
returns-in_err-question c =
    let l = c.loop-at in
    let p = err_from_is_err_and c.from_residual.result c.from_residual.ensures.1 in
    rw (p.1, p.2) (questions_refused _ _ c.args.tokens.now c.split_at.result.1.now l.at c.entry_len-len.result _ c.loop-at-test.true c.split_at.ensures.back c.entry_len-len.ensures l.invariant.read (λ (qs : Vec Question Global). map question_view qs.items) c.in_err-question.field-0.0 c.in_err-question.ensures)
