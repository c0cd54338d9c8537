use Rattle.cli_checks.proofs.OriginLaws.{lists_are_read}
use Rattle.cli_checks.proofs.laws.lists_are_read.Goals as goal

pub returns : goal.returns
returns c = lists_are_read
