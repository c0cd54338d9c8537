use Rattle.std.proofs.Common.{◌∙◌, ap}
use Rattle.std.specs.Str.Parse.{ParsesUnsigned, ExplainsUnsignedError, HasUnsignedDigitsIfOk}
use Rattle.clap.proofs.WalkLemmas.{one_text-rows}
use Rattle.clap.specs.Words.{found_of, one_of, one_text, rows_of}
use Rattle.cli_core.specs.Values.{number_if}
use Rattle.cli_core.proofs.NumberWordLemmas.{number_tried}
use Rattle.cli_core.proofs.matched.number_at.Goals as goal

pub returns : goal.returns
returns c =
    let found = found_of c.args.matches.now in
    c.ok.ensures.value
    ∙ (number_tried (λ bs r. ParsesUnsigned 64 10 bs r × ExplainsUnsignedError 10 bs r × HasUnsignedDigitsIfOk bs r) (λ t x g. g.0) (one_text found c.name.result.now) c.try_get_one.result c.try_get_one.ensures.none c.try_get_one.ensures.value
    ∙ ap number_if (one_text-rows found c.name.result.now ∙ ap (λ id. one_of id (rows_of found)) c.name.ensures))
