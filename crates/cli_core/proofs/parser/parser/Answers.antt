use Rattle.std.proofs.Common.{◌∙◌, ap, ap₂, sym, take_all, arith, rules}
use Rattle.std.specs.Prelude.{fold}
use Rattle.std.proofs.lemmas.List.Sums.{fold_more}
use Rattle.clap.specs.Words.{App, with_subcommand}
use Rattle.cli_core.specs.Commands.{all_commands, bare_office, office, with_command}
use Rattle.cli_core.proofs.parser.parser.Goals as goal

pub loop-command-preserved : goal.loop-command-preserved
loop-command-preserved c =
    let at = c.loop-command in
    let made = c.in_ok-command_parser.ensures in
    let more = fold_more with_command bare_office all_commands at.command-index _ (search (rules, arith)) in
    c.in_ok-parser.ensures.shape made.local ∙ (ap₂ with_subcommand at.invariant (ap (λ (a : App). a.top) made.shape) ∙ sym more)

pub returns : goal.returns
unfolding office
returns c =
    let at = c.loop-command in
    at.invariant ∙ ap (fold with_command bare_office) (take_all at.command-index all_commands (search (rules, arith)))
