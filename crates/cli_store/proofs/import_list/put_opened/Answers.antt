use Rattle.cli_store.proofs.import_list.put_opened.Goals as goal

pub returns : goal.returns
returns g c = rw c.into_connection.ensures c.put_all-done.ensures
