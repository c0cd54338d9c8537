use Rattle.std.proofs.Common.{Global}
use Rattle.std.specs.Prelude.{string_bytes}
use Rattle.std.proofs.lemmas.Result.{err_from_is_err_and}
use Rattle.cli_updates.specs.Request.{identifier_in}
use Rattle.cli_updates.specs.Split.{numbered, split_items}
use Rattle.cli_core.proofs.StepLemmas.{words_refused, input_refused, made_of}
use Rattle.cli_updates.proofs.split.answer.Goals as goal

pub returns-in_err-id : goal.returns-in_err-id
returns-in_err-id g c =
    let p = err_from_is_err_and c.from_residual.result c.from_residual.ensures.1 in
    rw (p.1, p.2) (words_refused (string_bytes {Z = Global}) _ (identifier_in (numbered c.args.word.now 1)) (split_items c.args.word.now) _ _ (λ id. id) _ c.in_err-id.ensures (g.met.R.Input.still c.args.reader.now))

pub returns-in_err-items : goal.returns-in_err-items
returns-in_err-items g c =
    let p = err_from_is_err_and c.from_residual-in_err-items.result c.from_residual-in_err-items.ensures.1 in
    rw (p.1, p.2) (input_refused (string_bytes {Z = Global}) (g.R.Input.left c.args.reader.now) (identifier_in (numbered c.args.word.now 1)) (split_items c.args.word.now) (g.R.Input.fine c.args.reader.now c.read_input.new.input) (g.R.Input.failed c.args.reader.now c.read_input.new.input) _ c.in_err-items.field-0.0 c.in_ok-id.ensures c.in_err-items.ensures)

pub returns : goal.returns
returns g c =
    let read = c.in_ok-items.ensures in
    made_of (string_bytes {Z = Global}) _ (identifier_in (numbered c.args.word.now 1)) (split_items c.args.word.now) _ _ _ c.in_ok-items.items.items c.split_items.result c.in_ok-id.ensures read.0 read.1 c.split_items.ensures
