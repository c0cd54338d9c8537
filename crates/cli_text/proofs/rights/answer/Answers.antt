use Rattle.std.proofs.Common.{Vec, Global, ℕ}
use Rattle.std.proofs.lemmas.Result.{err_from_is_err_and}
use Rattle.cli_text.specs.Rights.{decided_by, question_in, question_of}
use Rattle.cli_core.proofs.StepLemmas.{words_refused, input_refused, made_of}
use Rattle.cli_text.proofs.rights.answer.Goals as goal

pub returns-in_err-asked : goal.returns-in_err-asked
returns-in_err-asked g c =
    let p = err_from_is_err_and c.from_residual.result c.from_residual.ensures.1 in
    rw (p.1, p.2) (words_refused (λ (line : Vec ℕ Global). line.items) _ (question_of c.args.words.asked) (decided_by c.args.words.form) _ _ question_in _ c.in_err-asked.ensures (g.met.R.Input.still c.args.policy.now))

pub returns-in_err-text : goal.returns-in_err-text
returns-in_err-text g c =
    let p = err_from_is_err_and c.from_residual-in_err-text.result c.from_residual-in_err-text.ensures.1 in
    rw (p.1, p.2) (input_refused (λ (line : Vec ℕ Global). line.items) (g.R.Input.left c.args.policy.now) (question_of c.args.words.asked) (decided_by c.args.words.form) (g.R.Input.fine c.args.policy.now c.read_input.new.input) (g.R.Input.failed c.args.policy.now c.read_input.new.input) (question_in c.in_ok-asked.asked) c.in_err-text.field-0.0 c.in_ok-asked.ensures c.in_err-text.ensures)

pub returns : goal.returns
returns g c =
    let read = c.in_ok-text.ensures in
    made_of (λ (line : Vec ℕ Global). line.items) _ (question_of c.args.words.asked) (decided_by c.args.words.form) _ _ (question_in c.in_ok-asked.asked) c.in_ok-text.text.items c.decided_by.result c.in_ok-asked.ensures read.0 read.1 (rw c.deref.ensures.value at c.decided_by.ensures)
