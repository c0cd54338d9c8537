use Rattle.office_wire.proofs.TakenLemmas.{one_row}
use Rattle.office_wire.proofs.laws.targets_have_one_row.Goals as goal

pub returns : goal.returns
returns c = one_row
