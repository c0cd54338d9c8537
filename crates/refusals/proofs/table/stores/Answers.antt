use Rattle.std.proofs.Common.{refl}
use Rattle.refusals.specs.Tables.{store_rows}
use Rattle.refusals.proofs.table.stores.Goals as goal

pub returns : goal.returns
unfolding store_rows
returns c = refl
