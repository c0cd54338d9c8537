use Rattle.policy_tools.proofs.ExpectationLaws.{read_found, read_only}
use Rattle.policy_tools.proofs.expectation_lines.read_expectations.Goals as goal

pub returns-clause-found : goal.returns-clause-found
returns-clause-found c = read_found c.args.text.now c.expectations_of.result c.reveal_octets.ensures c.expectations_of.ensures

pub returns-clause-only : goal.returns-clause-only
returns-clause-only c = read_only c.args.text.now c.expectations_of.result c.expectations_of.ensures
