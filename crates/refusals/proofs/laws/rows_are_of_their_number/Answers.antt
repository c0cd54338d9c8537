use Rattle.refusals.proofs.TableLemmas.{of_their_number}
use Rattle.refusals.proofs.laws.rows_are_of_their_number.Goals as goal

pub returns : goal.returns
returns c = of_their_number
