use Rattle.std.proofs.Common.{refl}
use Rattle.refusals.specs.Tables.{name_rows}
use Rattle.refusals.proofs.table.names.Goals as goal

pub returns : goal.returns
unfolding name_rows
returns c = refl
