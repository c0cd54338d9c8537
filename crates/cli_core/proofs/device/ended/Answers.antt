use Rattle.std.proofs.Common.{Err, subst}
use Rattle.dns_master.specs.Device.{TextWritten}
use Rattle.cli_core.proofs.JobLemmas.{printed_short}
use Rattle.cli_core.proofs.device.ended.Goals as goal

pub returns-in_default : goal.returns-in_default
returns-in_default g c =
    let held = g.W.Sink.contents c.args.writer.now in
    let failed = g.W.FaultCount.failures c.args.writer.now in
    λ old text failures wrote.
    printed_short old _ _ text failures _ _ c.in-Err.fault (Err c.write_no_memory.result) c.in_default.not-WriteFailed (subst (λ printed. TextWritten old held text printed failures failed) c.in-Err.is wrote) c.write_no_memory.ensures
