use Rattle.std.proofs.Common.{Err}
use Rattle.zone_core.specs.Zones.{ZoneOf}
use Rattle.cli_text.specs.Canon.{zone_read, text_of_zone, canon_text}
use Rattle.cli_core.proofs.JobLemmas.{answered_printed, answered_told, text_made, text_refused}
use Rattle.cli_text.proofs.canon.CanonTask.run.Goals as goal

pub returns-in-Ok : goal.returns-in-Ok
returns-in-Ok g c =
    let read = c.in-Ok.ensures in
    answered_printed _ (canon_text c.args.self.form c.args.self.origin.now) _ _ _ _ _ _ (text_of_zone c.args.self.form c.in-Ok.zone) c.print.result (text_made _ (zone_read c.args.self.origin.now) (text_of_zone c.args.self.form) c.in-Ok.zone read.0) read.1 c.print.ensures

pub returns-in-Err : goal.returns-in-Err
returns-in-Err g c =
    let refused = text_refused _ (zone_read c.args.self.origin.now) (text_of_zone c.args.self.form) (λ (zone : ZoneOf). zone) c.in-Err.fault _ _ c.in-Err.ensures in
    answered_told _ (canon_text c.args.self.form c.args.self.origin.now) _ _ _ _ _ _ (λ t. t) c.in-Err.fault (Err c.write_refusal.result) refused c.write_refusal.ensures
