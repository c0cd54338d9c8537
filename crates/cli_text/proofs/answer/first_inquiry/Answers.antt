use Rattle.std.proofs.Common.{[], Err}
use Rattle.cli_text.specs.Answer.{inquiry_read, inquiry_text}
use Rattle.cli_text.specs.QuestionViews.{inquiry_view}
use Rattle.cli_core.proofs.JobLemmas.{answered_told, text_refused}
use Rattle.cli_text.proofs.answer.first_inquiry.Goals as goal

pub returns-in-Err : goal.returns-in-Err
returns-in-Err g c =
    let word = c.args.what.0.now in
    let form = c.args.what.1 in
    let refused = text_refused _ (inquiry_read form word) (λ i. []) inquiry_view c.in-Err.fault _ _ c.in-Err.ensures in
    answered_told _ (inquiry_text form word) _ _ _ _ _ _ (λ t. t) c.in-Err.fault (Err c.write_refusal.result) refused c.write_refusal.ensures
