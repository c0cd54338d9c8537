use Rattle.cli_store.proofs.program.do_store_job.Goals as goal

pub returns : goal.returns
returns g c = rw (c.left.ensures.left, c.left.ensures.status) c.done.ensures
