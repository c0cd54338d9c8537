use Rattle.std.proofs.Common.{refl}
use Rattle.refusals.specs.Tables.{file_rows}
use Rattle.refusals.proofs.table.files.Goals as goal

pub returns : goal.returns
unfolding file_rows
returns c = refl
