use Rattle.std.proofs.Common.{◌∙◌, ◌++◌, ap, option_map, subst, sym, Global}
use Rattle.std.specs.Prelude.{string_bytes}
use Rattle.zone_core.specs.Changes.{change_in}
use Rattle.cli_updates.specs.Plan.{asker_in, change_lines, zone_update, IsReplyText}
use Rattle.cli_updates.proofs.PlanLemmas.{text_made, text_refused}
use Rattle.cli_updates.proofs.plan.reply_text.Goals as goal
use Rattle.cli_updates.proofs.plan.reply_text.Goals.{in-NoError+in_ok-push_change+in_ok-push_after, in_default}

pub returns : goal.returns
returns c =
    let change = option_map change_in c.in_ok-reply.change in
    let reply = c.in_ok-reply.reply in
    let asker = asker_in c.args.asker.now in
    let zone = c.args.asked.zone in
    let update = c.args.asked.update in
    let makes = c.in_ok-reply.ensures.exact in
    elim c.match-reply-3.branch [
      | in-NoError+in_ok-push_change+in_ok-push_after w ↦
          subst (λ t. IsReplyText c.args.lines asker (zone_update c.args.asked) (string_bytes {Z = Global} t)) (sym w.text-is)
          (text_made asker zone update reply change c.args.lines _ _ makes w.in-NoError.is
          (w.in_ok-push_change.ensures ∙ ap (λ bs. bs ++ change_lines change) c.in_ok-text.ensures) w.in_ok-push_after.ensures)
      | in_default w ↦
          subst (λ t. IsReplyText c.args.lines asker (zone_update c.args.asked) (string_bytes {Z = Global} t)) (sym w.text-is)
          (text_refused asker zone update reply change c.args.lines _ makes w.in_default.not-NoError c.in_ok-text.ensures)
    ]
