use Rattle.std.proofs.Common.{Vec, Global, ℕ}
use Rattle.std.proofs.lemmas.Result.{err_from_is_err_and}
use Rattle.dns_names.specs.Reading.{absolute_name}
use Rattle.cli_core.specs.LineFaults.{of_names}
use Rattle.cli_text.specs.Parting.{part_in}
use Rattle.cli_core.proofs.StepLemmas.{words_refused, input_refused, made_of}
use Rattle.cli_text.proofs.parting.answer.Goals as goal

pub returns-in_err-origin : goal.returns-in_err-origin
returns-in_err-origin g c =
    let p = err_from_is_err_and c.from_residual.result c.from_residual.ensures.1 in
    rw (p.1, p.2) (words_refused (λ (lines : Vec ℕ Global). lines.items) _ (of_names (absolute_name c.args.origin.now)) (part_in c.args.part) _ _ (λ name. name) _ c.in_err-origin.ensures (g.met.R.Input.still c.args.reader.now))

pub returns-in_err-text : goal.returns-in_err-text
returns-in_err-text g c =
    let p = err_from_is_err_and c.from_residual-in_err-text.result c.from_residual-in_err-text.ensures.1 in
    rw (p.1, p.2) (input_refused (λ (lines : Vec ℕ Global). lines.items) (g.R.Input.left c.args.reader.now) (of_names (absolute_name c.args.origin.now)) (part_in c.args.part) (g.R.Input.fine c.args.reader.now c.read_input.new.input) (g.R.Input.failed c.args.reader.now c.read_input.new.input) _ c.in_err-text.field-0.0 c.in_ok-origin.ensures c.in_err-text.ensures)

pub returns : goal.returns
returns g c =
    let read = c.in_ok-text.ensures in
    made_of (λ (lines : Vec ℕ Global). lines.items) _ (of_names (absolute_name c.args.origin.now)) (part_in c.args.part) _ _ _ c.in_ok-text.text.items c.part_in.result c.in_ok-origin.ensures read.0 read.1 c.part_in.ensures
