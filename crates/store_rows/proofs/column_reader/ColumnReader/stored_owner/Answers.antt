use Rattle.std.proofs.Common.{sym, ap, ◌∙◌}
use Rattle.store_rows.proofs.ColumnLaws.{name_also}
use Rattle.store_rows.proofs.RowSteps.{done}
use Rattle.store_rows.proofs.column_reader.ColumnReader.stored_owner.Goals as goal

pub returns-in-Some-clause-exact : goal.returns-in-Some-clause-exact
returns-in-Some-clause-exact c = name_also c.args.text.now c.in-Some.origin.now c.in-Some.ensures.1 ∙ ap done (sym c.in_ok-try_copy.ensures)
