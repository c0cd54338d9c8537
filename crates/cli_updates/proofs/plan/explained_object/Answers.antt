use Rattle.std.proofs.Common.{◌∙◌}
use Rattle.std.proofs.lemmas.Result.{IfOk-weaker}
use Rattle.cli_core.specs.declared.job.PlanObject.TheVariants.{Explained}
use Rattle.cli_updates.specs.Plan.{asker_in, zone_update, plan_refusal}
use Rattle.cli_updates.specs.PlanObjects.{outcome_of}
use Rattle.cli_updates.specs.PointObjects.{items_value}
use Rattle.cli_updates.proofs.PlanObjectLemmas.{object_made}
use Rattle.cli_updates.proofs.plan.explained_object.Goals as goal

pub returns : goal.returns
returns c =
    let asker = asker_in c.args.asker.now in
    let u = zone_update c.args.asked in
    let items = items_value asker.rules asker.caller u.zone.origin u.update in
    IfOk-weaker c.object_with.result _ _
    (λ text e. object_made Explained items (outcome_of u.zone u.update (plan_refusal asker u)) c.deref.result.now text.items (c.deref.ensures.value ∙ c.in_ok-items.ensures) e)
    c.object_with.ensures
