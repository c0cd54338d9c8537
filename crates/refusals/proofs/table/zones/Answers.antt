use Rattle.std.proofs.Common.{refl}
use Rattle.refusals.specs.Tables.{zone_rows}
use Rattle.refusals.proofs.table.zones.Goals as goal

pub returns : goal.returns
unfolding zone_rows
returns c = refl
