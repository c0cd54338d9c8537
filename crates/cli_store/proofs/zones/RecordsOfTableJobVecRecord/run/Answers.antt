use Rattle.cli_store.proofs.zones.RecordsOfTableJobVecRecord.run.Goals as goal

pub returns : goal.returns
returns g c = (c.export_records.ensures.asks, c.export_records.ensures.answer)
