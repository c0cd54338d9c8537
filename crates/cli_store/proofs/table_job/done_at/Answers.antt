use Rattle.cli_store.proofs.table_job.done_at.Goals as goal

pub returns : goal.returns
returns g c = rw c.into_connection.ensures c.run-answer.ensures
