use Rattle.clap.specs.Words.{first_of, found_of, rows_of}
use Rattle.cli_core.specs.Commands.{argument_name}
use Rattle.cli_core.specs.declared.argument.Argument.TheVariants as argument
use Rattle.cli_core.proofs.DiffWordLemmas.{both_there}
use Rattle.cli_core.proofs.SplitWordLemmas.{split_job}
use Rattle.cli_core.proofs.commands.split.SplitCommandWords.read.Goals as goal

pub returns : goal.returns
returns c =
    let rows = rows_of (found_of c.args.matches.now) in
    let origin = c.in_ok-origin.origin.now in
    let file = c.in_ok-origin.file.now in
    let both = both_there (first_of (argument_name argument.Origin) rows) (first_of (argument_name argument.File) rows) origin file c.in_ok-origin.ensures in
    split_job rows origin file c.in_ok-part.part both.0 both.1 c.in_ok-part.ensures
