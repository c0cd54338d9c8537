use Rattle.std.proofs.Common.{◌∙◌, Err, inl, refl, subst, sym}
use Rattle.cli_core.specs.declared.line_fault.LineFault.TheVariants.{Refused}
use Rattle.cli_core.specs.declared.line_fault.LineFault.{LineFault}
use Rattle.cli_core.specs.Replies.{IsRefusalWritten}
use Rattle.cli_core.proofs.device.write_refusal.Goals as goal

pub returns-in-Ok : goal.returns-in-Ok
returns-in-Ok g c =
    let told = λ (fault : LineFault). IsRefusalWritten (g.W.Sink.contents c.args.writer.now) (g.W.Sink.contents c.write_line.new.writer) fault (Err c.write_line.result) (g.W.FaultCount.failures c.args.writer.now) (g.W.FaultCount.failures c.write_line.new.writer) in
    subst told (sym c.in-Refused.is) (c.write_line.ensures (Refused c.in-Refused.refusal) (c.as_bytes.ensures.value ∙ c.in-Ok.ensures) (inl refl))
