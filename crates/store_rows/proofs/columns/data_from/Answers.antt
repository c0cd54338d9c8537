use Rattle.store_rows.proofs.ColumnLaws.{data_also}
use Rattle.store_rows.proofs.columns.data_from.Goals as goal

pub returns-in-Some : goal.returns-in-Some
returns-in-Some c = data_also c.args.record_type c.args.text.now c.in-Some.rdata c.in-Some.ensures
