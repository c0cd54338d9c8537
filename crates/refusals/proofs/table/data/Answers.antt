use Rattle.std.proofs.Common.{refl}
use Rattle.refusals.specs.Tables.{data_rows}
use Rattle.refusals.proofs.table.data.Goals as goal

pub returns : goal.returns
unfolding data_rows
returns c = refl
