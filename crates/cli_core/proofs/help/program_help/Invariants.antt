use Rattle.std.proofs.Common.{◌≡◌, ◌++◌, take}
use Rattle.std.specs.Prelude.{string_bytes}
use Rattle.std.specs.List.{flat_map}
use Rattle.cli_core.specs.Commands.{all_commands}
use Rattle.cli_core.specs.Help.{before_commands, command_line}
use Rattle.cli_core.proofs.help.program_help.Given as goal

abbrev pub invariant-loop-command : goal.invariant-loop-command
invariant-loop-command l = string_bytes l.text ≡ before_commands ++ flat_map command_line (take l.command-index all_commands)
