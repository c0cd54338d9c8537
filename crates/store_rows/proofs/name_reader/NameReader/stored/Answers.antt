use Rattle.store_rows.proofs.ColumnLaws.{name_also}
use Rattle.store_rows.proofs.name_reader.NameReader.stored.Goals as goal

pub returns-in-Ok-clause-exact : goal.returns-in-Ok-clause-exact
returns-in-Ok-clause-exact c = name_also c.args.text.now c.in-Ok.name c.in-Ok.ensures.exact
