use Rattle.std.proofs.Common.{refl}
use Rattle.refusals.specs.Tables.{policy_rows}
use Rattle.refusals.proofs.table.policies.Goals as goal

pub returns : goal.returns
unfolding policy_rows
returns c = refl
