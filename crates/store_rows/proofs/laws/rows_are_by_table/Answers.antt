use Rattle.store_rows.proofs.TableLaws.{rows_are_by_table}
use Rattle.store_rows.proofs.laws.rows_are_by_table.Goals as goal

pub returns : goal.returns
returns c = rows_are_by_table
