use Rattle.std.proofs.Common.{rules}
use Rattle.refusals.specs.Tables.{rows}
use Rattle.refusals.proofs.number.all_rows.Goals as goal

pub returns : goal.returns
unfolding rows
returns c = search rules
