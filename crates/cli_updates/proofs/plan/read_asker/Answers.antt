use Rattle.std.proofs.lemmas.Result.{err_from_is_err_and}
use Rattle.cli_text.specs.Rights.{caller_in}
use Rattle.cli_updates.specs.Plan.{asker_in, asker_of}
use Rattle.cli_core.proofs.StepLemmas.{words_refused, input_refused, made_of}
use Rattle.cli_updates.proofs.plan.read_asker.Goals as goal

pub returns-in_err-caller : goal.returns-in_err-caller
returns-in_err-caller g c =
    let p = err_from_is_err_and c.from_residual.result c.from_residual.ensures.1 in
    rw (p.1, p.2) (words_refused asker_in _ (caller_in c.args.caller.now) asker_of _ _ (λ caller. caller) _ c.in_err-caller.ensures (g.met.R.Input.still c.args.reader.now))

pub returns-in_err-text : goal.returns-in_err-text
returns-in_err-text g c =
    let p = err_from_is_err_and c.from_residual-in_err-text.result c.from_residual-in_err-text.ensures.1 in
    rw (p.1, p.2) (input_refused asker_in (g.R.Input.left c.args.reader.now) (caller_in c.args.caller.now) asker_of (g.R.Input.fine c.args.reader.now c.read_input.new.input) (g.R.Input.failed c.args.reader.now c.read_input.new.input) _ c.in_err-text.field-0.0 c.in_ok-caller.ensures c.in_err-text.ensures)

pub returns : goal.returns
returns g c =
    let read = c.in_ok-text.ensures in
    made_of asker_in _ (caller_in c.args.caller.now) asker_of _ _ _ c.in_ok-text.text.items c.asker_of.result c.in_ok-caller.ensures read.0 read.1 (rw c.deref.ensures.value at c.asker_of.ensures)
