use Rattle.clap.specs.Words.{first_of, found_of, rows_of}
use Rattle.cli_core.specs.Commands.{argument_name}
use Rattle.cli_core.specs.declared.argument.Argument.TheVariants as argument
use Rattle.cli_core.proofs.DiffWordLemmas.{both_there}
use Rattle.cli_core.proofs.PlanWordLemmas.{plan_job}
use Rattle.cli_core.proofs.commands.plan.PlanCommandWords.read.Goals as goal

pub returns : goal.returns
returns c =
    let rows = rows_of (found_of c.args.matches.now) in
    let policy = c.in_ok-policy.policy.now in
    let caller = c.in_ok-policy.caller.now in
    let both = both_there (first_of (argument_name argument.Policy) rows) (first_of (argument_name argument.Caller) rows) policy caller c.in_ok-policy.ensures in
    plan_job rows policy caller c.in_ok-form.form both.0 both.1 c.in_ok-form.ensures
