use Rattle.std.proofs.Common.{refl}
use Rattle.refusals.specs.Tables.{command_rows}
use Rattle.refusals.proofs.table.commands.Goals as goal

pub returns : goal.returns
unfolding command_rows
returns c = refl
