use Rattle.office_core.proofs.ListLemmas.{lists_are_exact}
use Rattle.office_core.proofs.laws.lists_are_exact.Goals as goal

pub returns : goal.returns
returns c = lists_are_exact
