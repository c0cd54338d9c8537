use Rattle.std.proofs.Common.{Err}
use Rattle.cli_text.specs.Apply.{zone_lines, apply_text}
use Rattle.cli_core.proofs.JobLemmas.{answered_printed, answered_told}
use Rattle.cli_text.proofs.apply.ApplyTask.run.Goals as goal

pub returns-in-Ok : goal.returns-in-Ok
returns-in-Ok g c =
    let read = c.in-Ok.ensures in
    answered_printed _ apply_text _ _ _ _ _ _ (zone_lines c.in-Ok.zone) c.print.result read.0 read.1 c.print.ensures

pub returns-in-Err : goal.returns-in-Err
returns-in-Err g c = answered_told _ apply_text _ _ _ _ _ _ zone_lines c.in-Err.fault (Err c.write_refusal.result) c.in-Err.ensures c.write_refusal.ensures
