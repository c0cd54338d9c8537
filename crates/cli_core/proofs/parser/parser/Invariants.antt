use Rattle.std.specs.Prelude.{◌≡◌, fold, take}
use Rattle.clap.specs.Words.{app_of}
use Rattle.cli_core.specs.Commands.{all_commands, bare_office, with_command}
use Rattle.cli_core.proofs.parser.parser.Given as goal

abbrev pub invariant-loop-command : goal.invariant-loop-command
invariant-loop-command l = app_of l.parser ≡ fold with_command bare_office (take l.command-index all_commands)
