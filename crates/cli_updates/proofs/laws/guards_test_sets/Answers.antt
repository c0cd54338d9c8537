use Rattle.cli_updates.proofs.SetLaws.{no_soa_tested, sets_enough, sets_tested}
use Rattle.cli_updates.proofs.laws.guards_test_sets.Goals as goal

pub returns-clause-enough : goal.returns-clause-enough
returns-clause-enough c = sets_enough

pub returns-clause-tested : goal.returns-clause-tested
returns-clause-tested c = sets_tested

pub returns-clause-soa : goal.returns-clause-soa
returns-clause-soa c = no_soa_tested
