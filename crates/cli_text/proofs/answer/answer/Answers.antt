use Rattle.std.proofs.Common.{Vec, Global, ℕ, option_map}
use Rattle.std.proofs.lemmas.Result.{err_from_is_err_and}
use Rattle.cli_core.proofs.StepLemmas.{words_refused, input_refused, made_of}
use Rattle.cli_text.specs.Answer.{answers_behind}
use Rattle.cli_text.specs.Questions.{inquiry_of}
use Rattle.cli_text.specs.QuestionViews.{inquiry_view}
use Rattle.cli_text.proofs.answer.answer.Goals as goal

pub returns-in_err-inquiry : goal.returns-in_err-inquiry
returns-in_err-inquiry g c =
    let p = err_from_is_err_and c.from_residual.result c.from_residual.ensures.1 in
    let w = c.args.words in
    rw (p.1, p.2) (words_refused (λ (text : Vec ℕ Global). text.items) _ (inquiry_of w.form w.origin.now w.name.now (option_map (λ t. t.now) w.asked)) answers_behind _ _ inquiry_view _ c.in_err-inquiry.ensures (g.met.R.Input.still c.args.reader.now))

pub returns-in_err-text : goal.returns-in_err-text
returns-in_err-text g c =
    let p = err_from_is_err_and c.from_residual-in_err-text.result c.from_residual-in_err-text.ensures.1 in
    let w = c.args.words in
    rw (p.1, p.2) (input_refused (λ (text : Vec ℕ Global). text.items) (g.R.Input.left c.args.reader.now) (inquiry_of w.form w.origin.now w.name.now (option_map (λ t. t.now) w.asked)) answers_behind (g.R.Input.fine c.args.reader.now c.read_input.new.input) (g.R.Input.failed c.args.reader.now c.read_input.new.input) (inquiry_view c.in_ok-inquiry.inquiry) c.in_err-text.field-0.0 c.in_ok-inquiry.ensures c.in_err-text.ensures)

pub returns : goal.returns
returns g c =
    let read = c.in_ok-text.ensures in
    let w = c.args.words in
    made_of (λ (text : Vec ℕ Global). text.items) _ (inquiry_of w.form w.origin.now w.name.now (option_map (λ t. t.now) w.asked)) answers_behind _ _ (inquiry_view c.in_ok-inquiry.inquiry) c.in_ok-text.text.items c.answers_behind.result c.in_ok-inquiry.ensures read.0 read.1 c.answers_behind.ensures
