use Rattle.std.proofs.lemmas.Result.{err_from_is_err_and}
use Rattle.dns_names.specs.Reading.{absolute_name}
use Rattle.cli_core.specs.LineFaults.{of_names}
use Rattle.cli_core.proofs.StepLemmas.{words_refused, input_refused, made_of}
use Rattle.cli_text.specs.Questions.{inquiry_in}
use Rattle.cli_text.specs.QuestionViews.{inquiry_view}
use Rattle.cli_text.proofs.answer.read_inquiry.Goals as goal

pub returns-in_err-origin : goal.returns-in_err-origin
returns-in_err-origin g c =
    let p = err_from_is_err_and c.from_residual.result c.from_residual.ensures.1 in
    rw (p.1, p.2) (words_refused inquiry_view _ (of_names (absolute_name c.args.what.0.now)) (inquiry_in c.args.what.1) _ _ (λ name. name) _ c.in_err-origin.ensures (g.met.R.Input.still c.args.reader.now))

pub returns-in_err-text : goal.returns-in_err-text
returns-in_err-text g c =
    let p = err_from_is_err_and c.from_residual-in_err-text.result c.from_residual-in_err-text.ensures.1 in
    rw (p.1, p.2) (input_refused inquiry_view (g.R.Input.left c.args.reader.now) (of_names (absolute_name c.args.what.0.now)) (inquiry_in c.args.what.1) (g.R.Input.fine c.args.reader.now c.read_input.new.input) (g.R.Input.failed c.args.reader.now c.read_input.new.input) _ c.in_err-text.field-0.0 c.in_ok-origin.ensures c.in_err-text.ensures)

pub returns : goal.returns
returns g c =
    let read = c.in_ok-text.ensures in
    made_of inquiry_view _ (of_names (absolute_name c.args.what.0.now)) (inquiry_in c.args.what.1) _ _ _ c.in_ok-text.text.items c.inquiry_in.result c.in_ok-origin.ensures read.0 read.1 (rw c.deref.ensures.value at c.inquiry_in.ensures)
