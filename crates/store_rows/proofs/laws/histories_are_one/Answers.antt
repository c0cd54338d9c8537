use Rattle.store_rows.proofs.LaterChangeLaws.{histories_are_one}
use Rattle.store_rows.proofs.laws.histories_are_one.Goals as goal

pub returns : goal.returns
returns c = histories_are_one
