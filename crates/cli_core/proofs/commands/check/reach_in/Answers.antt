use Rattle.std.proofs.Common.{option_map}
use Rattle.clap.specs.Words.{first_of, found_of, rows_of}
use Rattle.cli_core.specs.Commands.{argument_name}
use Rattle.cli_core.specs.declared.argument.Argument.TheVariants as argument
use Rattle.cli_core.proofs.DiffWordLemmas.{both_there}
use Rattle.cli_core.proofs.ReachWordLemmas.{reach_job}
use Rattle.cli_core.proofs.commands.check.reach_in.Goals as goal

pub returns : goal.returns
returns c =
    let rows = rows_of (found_of c.args.matches.now) in
    let policy = c.in_ok-policy.policy.now in
    let caller = c.in_ok-policy.caller.now in
    let both = both_there (first_of (argument_name argument.CheckedPolicy) rows) (first_of (argument_name argument.Isolated) rows) policy caller c.in_ok-policy.ensures in
    reach_job rows (option_map (λ f. f.now) c.text_at-file.result) policy caller c.in_ok-origin.origin.now c.in_ok-content.content c.text_at-file.ensures both.0 both.1
    c.in_ok-origin.ensures c.in_ok-content.ensures
