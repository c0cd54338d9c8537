use Rattle.dns_data.specs.declared.record_type.RecordType.TheVariants.{Soa}
use Rattle.store_rows.proofs.ColumnLaws.{data_also}
use Rattle.store_rows.proofs.data_reader.DataReader.stored_soa.Goals as goal

pub returns-in-Ok : goal.returns-in-Ok
returns-in-Ok c = data_also Soa c.args.text.now c.in-Ok.rdata c.in-Ok.ensures
