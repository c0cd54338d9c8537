use Rattle.store_rows.proofs.laws.new_tables_hold_nothing.Goals as goal
use Rattle.store_rows.proofs.BatchLaws.{new_tables}

pub returns : goal.returns
returns c = new_tables
