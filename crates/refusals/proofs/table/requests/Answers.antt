use Rattle.std.proofs.Common.{refl}
use Rattle.refusals.specs.Tables.{request_rows}
use Rattle.refusals.proofs.table.requests.Goals as goal

pub returns : goal.returns
unfolding request_rows
returns c = refl
