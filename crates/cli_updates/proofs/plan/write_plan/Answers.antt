use Rattle.std.proofs.Common.{ℕ, Vec, Global}
use Rattle.cli_updates.specs.Plan.{asker_in, zone_update_read, IsPlanText}
use Rattle.cli_updates.proofs.ToldLemmas.{told_written}
use Rattle.cli_updates.proofs.plan.write_plan.Goals as goal

pub returns : goal.returns
returns g c = told_written (IsPlanText c.args.form (asker_in c.args.asker)) zone_update_read _ _ _ _ _ _ _ (λ (text : Vec ℕ Global). text.items) c.answer.result c.write_octets.result c.answer.ensures c.write_octets.ensures
