use Rattle.std.proofs.Common.{option_map}
use Rattle.std.proofs.lemmas.Result.{IfOk-weaker}
use Rattle.zone_core.specs.Changes.{change_in}
use Rattle.office_core.proofs.PlanLemmas.{makes_plan, makes_within}
use Rattle.office_core.proofs.update.plan.Goals as goal

pub returns-clause-step : goal.returns-clause-step
returns-clause-step c =
    IfOk-weaker c.planned.result _ _
    (λ r. makes_plan c.args.policy.now c.args.caller.now c.args.zone.now c.args.update.now r.0 (option_map change_in r.1)) c.planned.ensures

pub returns-clause-inside : goal.returns-clause-inside
returns-clause-inside c =
    IfOk-weaker c.planned.result _ _
    (λ r. makes_within c.args.policy.now c.args.caller.now c.args.zone.now c.args.update.now r.0 (option_map change_in r.1)) c.planned.ensures
