use Rattle.std.proofs.Common.{◌∙◌, ap}
use Rattle.clap.proofs.WalkLemmas.{first_value-rows}
use Rattle.clap.specs.Words.{first_of, found_of, rows_of}
use Rattle.cli_core.proofs.matched.text_at.Goals as goal

pub returns : goal.returns
returns c =
    let found = found_of c.args.matches.now in
    c.get_str.ensures ∙ (first_value-rows found c.name.result.now ∙ ap (λ id. first_of id (rows_of found)) c.name.ensures)
