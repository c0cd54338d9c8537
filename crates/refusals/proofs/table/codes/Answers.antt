use Rattle.std.proofs.Common.{refl}
use Rattle.refusals.specs.Tables.{code_rows}
use Rattle.refusals.proofs.table.codes.Goals as goal

pub returns : goal.returns
unfolding code_rows
returns c = refl
