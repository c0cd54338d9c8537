use Rattle.std.proofs.Common.{option_map}
use Rattle.std.proofs.lemmas.Result.{IfOk-weaker}
use Rattle.zone_core.specs.Changes.{change_in}
use Rattle.cli_updates.specs.Plan.{asker_in}
use Rattle.cli_updates.proofs.PlanAnswerLemmas.{object_of_made, object_of_refused}
use Rattle.cli_updates.proofs.plan.answers_object.Goals as goal

pub returns-in-NoError : goal.returns-in-NoError
returns-in-NoError c =
    let change = option_map change_in c.in_ok-reply.change in
    IfOk-weaker c.made_object.result _ _
    (λ text made. object_of_made (asker_in c.args.asker.now) c.args.asked.zone c.args.asked.update c.in_ok-reply.reply change made.0 text.items c.in_ok-reply.ensures.exact c.in-NoError.is made.1 made.2)
    c.made_object.ensures

pub returns-in_default : goal.returns-in_default
returns-in_default c =
    let change = option_map change_in c.in_ok-reply.change in
    IfOk-weaker c.outcome_text.result _ _
    (λ text e. object_of_refused (asker_in c.args.asker.now) c.args.asked.zone c.args.asked.update c.in_ok-reply.reply change text.items c.in_ok-reply.ensures.exact c.in_default.not-NoError e)
    c.outcome_text.ensures
