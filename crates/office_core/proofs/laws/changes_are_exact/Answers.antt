use Rattle.office_core.proofs.ToldLemmas.{changes_are_exact}
use Rattle.office_core.proofs.laws.changes_are_exact.Goals as goal

pub returns : goal.returns
returns c = changes_are_exact
