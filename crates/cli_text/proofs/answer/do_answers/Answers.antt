use Rattle.cli_text.proofs.ZoneOriginLemmas.{answered_behind}
use Rattle.cli_text.specs.QuestionViews.{inquiry_view}
use Rattle.cli_text.proofs.answer.do_answers.Goals as goal

pub returns-in-Ok-run : goal.returns-in-Ok-run
returns-in-Ok-run g c =
    let read = c.in-Ok.ensures in
    (inquiry_view c.in-Ok.inquiry, read.0, read.1, answered_behind _ _ _ _ _ c.run.result _ _ _ _ _ _ read.2 read.3 c.in-Ok-run.is c.run.ensures)

pub returns-in-Err-run : goal.returns-in-Err-run
returns-in-Err-run g c =
    let read = c.in-Ok.ensures in
    (inquiry_view c.in-Ok.inquiry, read.0, read.1, answered_behind _ _ _ _ _ c.run.result _ _ _ _ _ _ read.2 read.3 c.in-Err-run.is c.run.ensures)
