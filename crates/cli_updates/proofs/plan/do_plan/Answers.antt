use Rattle.cli_updates.proofs.ToldLemmas.{told_behind}
use Rattle.cli_updates.specs.Plan.{asker_in, zone_update_read, IsPlanText}
use Rattle.cli_updates.proofs.plan.do_plan.Goals as goal

pub returns-in-Ok-write_plan : goal.returns-in-Ok-write_plan
returns-in-Ok-write_plan g c =
    let read = c.in-Ok.ensures in
    (asker_in c.in-Ok.asker, read.0, read.1, told_behind (IsPlanText c.args.what.1 (asker_in c.in-Ok.asker)) zone_update_read _ _ _ _ _ _ c.write_plan.result _ _ _ _ read.2 read.3 c.in-Ok-write_plan.is c.write_plan.ensures)

pub returns-in-Err-write_plan : goal.returns-in-Err-write_plan
returns-in-Err-write_plan g c =
    let read = c.in-Ok.ensures in
    (asker_in c.in-Ok.asker, read.0, read.1, told_behind (IsPlanText c.args.what.1 (asker_in c.in-Ok.asker)) zone_update_read _ _ _ _ _ _ c.write_plan.result _ _ _ _ read.2 read.3 c.in-Err-write_plan.is c.write_plan.ensures)
