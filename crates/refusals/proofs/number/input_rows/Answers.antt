use Rattle.std.proofs.Common.{rules}
use Rattle.refusals.specs.Tables.{input_rows}
use Rattle.refusals.proofs.number.input_rows.Goals as goal

pub returns : goal.returns
unfolding input_rows
returns c = search rules
