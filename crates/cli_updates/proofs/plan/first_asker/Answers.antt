use Rattle.std.proofs.Common.{[], Err}
use Rattle.cli_updates.specs.Plan.{asker_in, asker_read, asker_text}
use Rattle.cli_core.proofs.JobLemmas.{answered_told, text_refused}
use Rattle.cli_updates.proofs.plan.first_asker.Goals as goal

pub returns-in-Err : goal.returns-in-Err
returns-in-Err g c =
    let word = c.args.caller.now in
    let refused = text_refused _ (asker_read word) (λ asker. []) asker_in c.in-Err.fault _ _ c.in-Err.ensures in
    answered_told _ (asker_text word) _ _ _ _ _ _ (λ t. t) c.in-Err.fault (Err c.write_refusal.result) refused c.write_refusal.ensures
