use Rattle.cli_updates.proofs.DiffLaws.{diffs_applied, diffs_lead, diffs_met}
use Rattle.cli_updates.proofs.laws.diffs_lead.Goals as goal

pub returns-clause-lead : goal.returns-clause-lead
returns-clause-lead c = diffs_lead

pub returns-clause-met : goal.returns-clause-met
returns-clause-met c = diffs_met

pub returns-clause-applied : goal.returns-clause-applied
returns-clause-applied c = diffs_applied
