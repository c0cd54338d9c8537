use Rattle.cli_checks.proofs.ReachAskLaws.{permitted_updates_count, counted_updates_are_permitted}
use Rattle.cli_checks.proofs.laws.reach_asks_as_the_office.Goals as goal

pub returns-clause-count : goal.returns-clause-count
returns-clause-count c = permitted_updates_count

pub returns-clause-permitted : goal.returns-clause-permitted
returns-clause-permitted c = counted_updates_are_permitted
