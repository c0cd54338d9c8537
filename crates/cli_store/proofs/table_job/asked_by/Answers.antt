use Rattle.std.proofs.Common.{inl}
use Rattle.sqlite.specs.Held.{state}
use Rattle.cli_store.proofs.FilesLemmas.{got_by}
use Rattle.cli_store.proofs.table_job.asked_by.Goals as goal

pub returns-in-Ok : goal.returns-in-Ok
returns-in-Ok g c =
    got_by (state g.S.Store) (g.P.StoreFiles.finds c.args.files c.args.path.0.now) (g.P.StoreFiles.refuses c.args.files c.args.path.0.now) (g.P.StoreFiles.connects c.args.files c.args.path.0.now) (g.J.TableJob.does c.args.job.now) c.in-Ok.table.conn c.done_at-conn.result.0 c.done_at-conn.result.1
    c.in-Ok.ensures.opened c.done_at-conn.ensures

pub returns-in-Err : goal.returns-in-Err
returns-in-Err g c = inl c.in-Err.ensures.refused
