use Rattle.std.proofs.Common.{◌≡◌, None, ap, option_map, subst}
use Rattle.std.proofs.lemmas.Result.{IfOk-weaker}
use Rattle.zone_core.specs.Changes.{change_in}
use Rattle.office_model.specs.declared.reply.UpdateReply.TheVariants.{Failed}
use Rattle.office_core.specs.Machine.{failed_reply}
use Rattle.office_core.specs.Steps.{Makes}
use Rattle.office_core.proofs.update.made.Goals as goal

pub returns-in-Ok : goal.returns-in-Ok
returns-in-Ok c =
    let none : None ≡ failed_reply c.args.zone.now.records c.args.update.now = ap (option_map Failed) c.in-Ok.ensures.exact in
    IfOk-weaker c.changed.result _ _
    (λ r makes. subst (λ x. Makes c.args.zone.now c.args.update.now x r.0 (option_map change_in r.1)) none makes)
    c.changed.ensures
