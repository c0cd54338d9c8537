use Rattle.store_rows.proofs.StateChecks.{states_are_by_table}
use Rattle.store_rows.proofs.laws.states_are_by_table.Goals as goal

pub returns : goal.returns
returns c = states_are_by_table
