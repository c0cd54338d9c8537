use Rattle.std.proofs.Common.{[], Err}
use Rattle.zone_core.specs.Zones.{ZoneOf}
use Rattle.cli_text.specs.Canon.{zone_read}
use Rattle.cli_updates.specs.Diff.{old_text}
use Rattle.cli_core.proofs.JobLemmas.{answered_told, text_refused}
use Rattle.cli_updates.proofs.diff.old_zone.Goals as goal

pub returns-in-Err : goal.returns-in-Err
returns-in-Err g c =
    let word = c.args.origin.now in
    let refused = text_refused _ (zone_read word) (λ (zone : ZoneOf). []) (λ (zone : ZoneOf). zone) c.in-Err.fault _ _ c.in-Err.ensures in
    answered_told _ (old_text word) _ _ _ _ _ _ (λ t. t) c.in-Err.fault (Err c.write_refusal.result) refused c.write_refusal.ensures
