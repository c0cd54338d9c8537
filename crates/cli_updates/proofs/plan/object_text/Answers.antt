use Rattle.std.proofs.Common.{[], refl}
use Rattle.std.proofs.lemmas.Result.{IfOk-weaker}
use Rattle.cli_core.specs.declared.job.PlanObject.TheVariants.{Reply}
use Rattle.cli_updates.specs.Plan.{asker_in, zone_update, plan_refusal}
use Rattle.cli_updates.specs.PlanObjects.{outcome_of}
use Rattle.cli_updates.proofs.PlanObjectLemmas.{object_made}
use Rattle.cli_updates.proofs.plan.object_text.Goals as goal

pub returns-in-Reply : goal.returns-in-Reply
returns-in-Reply c =
    let asker = asker_in c.args.asker.now in
    let u = zone_update c.args.asked in
    rw c.in-Reply.is
    (IfOk-weaker c.object_with.result _ _ (λ text e. object_made Reply [] (outcome_of u.zone u.update (plan_refusal asker u)) [] text.items refl e) c.object_with.ensures)
