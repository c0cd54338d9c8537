use Rattle.std.proofs.Common.{Err, inl, inr, refl, subst}
use Rattle.cli_core.specs.declared.line_fault.LineFault.{LineFault}
use Rattle.cli_core.specs.Replies.{IsRefusalWritten}
use Rattle.cli_store.proofs.import_list.put_by.Goals as goal

pub returns-in-Ok : goal.returns-in-Ok
returns-in-Ok g c = inr (c.in-Ok.table.conn, c.in-Ok.ensures.reached, (c.put_opened-conn.result.0, refl, c.put_opened-conn.ensures))

pub returns-in-Err : goal.returns-in-Err
returns-in-Err g c =
    let told : LineFault → Type 0 = λ fault. IsRefusalWritten (g.W.Sink.contents c.args.writer.now) (g.W.Sink.contents c.write_refusal.new.writer) fault (Err c.write_refusal.result) (g.W.FaultCount.failures c.args.writer.now) (g.W.FaultCount.failures c.write_refusal.new.writer) in
    inl (c.in-Err.unreached.fault, c.in-Err.ensures.refused, subst told c.from-fault.ensures c.write_refusal.ensures)
