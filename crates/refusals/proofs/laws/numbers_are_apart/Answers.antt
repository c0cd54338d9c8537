use Rattle.refusals.proofs.TableLemmas.{apart}
use Rattle.refusals.proofs.laws.numbers_are_apart.Goals as goal

pub returns : goal.returns
returns c = apart
