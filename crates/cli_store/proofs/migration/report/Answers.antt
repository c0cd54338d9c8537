use Rattle.std.proofs.Common.{Err, subst}
use Rattle.std.proofs.lemmas.Result.{err_from_is_err_and}
use Rattle.cli_core.specs.declared.line_fault.LineFault.{LineFault}
use Rattle.cli_core.specs.Replies.{IsRefusalWritten}
use Rattle.cli_store.proofs.migration.report.Goals as goal

pub returns-in_err-tell_migrated-in-Ok : goal.returns-in_err-tell_migrated-in-Ok
returns-in_err-tell_migrated-in-Ok g c =
    let p = err_from_is_err_and c.from_residual.result c.from_residual.ensures.1 in
    rw (c.in-Ok.is, p.1, p.2) c.in_err-tell_migrated-in-Ok.ensures

pub returns-in-Err : goal.returns-in-Err
returns-in-Err g c =
    let told : LineFault → Type 0 = λ fault. IsRefusalWritten (g.W.Sink.contents c.args.writer.now) (g.W.Sink.contents c.write_refusal.new.writer) fault (Err c.write_refusal.result) (g.W.FaultCount.failures c.args.writer.now) (g.W.FaultCount.failures c.write_refusal.new.writer) in
    rw c.in-Err.is (subst told c.from.ensures c.write_refusal.ensures)

pub returns-in_ok-tell_migrated-in-Ok : goal.returns-in_ok-tell_migrated-in-Ok
returns-in_ok-tell_migrated-in-Ok g c = rw c.in-Ok.is c.in_ok-tell_migrated-in-Ok.ensures
