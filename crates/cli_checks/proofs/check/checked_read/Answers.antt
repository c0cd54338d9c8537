use Rattle.std.proofs.lemmas.Result.{err_from_is_err_and}
use Rattle.cli_checks.specs.declared.check.Asked.{Asked}
use Rattle.cli_checks.specs.declared.check.Checking.{Checking}
use Rattle.cli_checks.specs.Check.{asked_in, checking_of}
use Rattle.cli_core.proofs.StepLemmas.{words_refused, input_refused, made_of}
use Rattle.cli_checks.proofs.check.checked_read.Goals as goal

pub returns-in_err-asked : goal.returns-in_err-asked
returns-in_err-asked g c =
    let p = err_from_is_err_and c.from_residual.result c.from_residual.ensures.1 in
    rw (p.1, p.2) (words_refused (λ (x : Checking). x) _ (asked_in c.args.wanted.subject) checking_of _ _ (λ (a : Asked). a) _ c.in_err-asked.ensures (g.met.R.Input.still c.args.reader.now))

pub returns-in_err-text : goal.returns-in_err-text
returns-in_err-text g c =
    let p = err_from_is_err_and c.from_residual-in_err-text.result c.from_residual-in_err-text.ensures.1 in
    rw (p.1, p.2) (input_refused (λ (x : Checking). x) (g.R.Input.left c.args.reader.now) (asked_in c.args.wanted.subject) checking_of (g.R.Input.fine c.args.reader.now c.read_input.new.input) (g.R.Input.failed c.args.reader.now c.read_input.new.input) c.in_ok-asked.asked c.in_err-text.field-0.0 c.in_ok-asked.ensures c.in_err-text.ensures)

pub returns : goal.returns
returns g c =
    let read = c.in_ok-text.ensures in
    made_of (λ (x : Checking). x) _ (asked_in c.args.wanted.subject) checking_of _ _ c.in_ok-asked.asked c.in_ok-text.text.items c.checking_of.result c.in_ok-asked.ensures read.0 read.1 c.checking_of.ensures
