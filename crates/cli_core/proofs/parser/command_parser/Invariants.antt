use Rattle.std.specs.Prelude.{◌≡◌, false, fold, take}
use Rattle.clap.specs.Words.{app_of, new_app}
use Rattle.clap.specs.declared.builder.command.Command.TheViews.{out-Command}
use Rattle.cli_core.specs.Commands.{command_word, with_argument}
use Rattle.cli_core.proofs.parser.command_parser.Given as goal

abbrev pub invariant-loop-argument : goal.invariant-loop-argument
invariant-loop-argument l =
    (app_of l.parser ≡ fold with_argument (new_app (command_word l.fn.command)) (take l.argument-index l.argument-items))
    × ((out-Command l.parser).has_globals ≡ false)
