use Rattle.std.proofs.Common.{codes, decimal, option_map}
use Rattle.zone_core.specs.Changes.{change_in}
use Rattle.office_model.specs.declared.reply.UpdateReply.TheVariants.{NoError}
use Rattle.cli_updates.specs.PlanObjects.{change_members, reply_piece}
use Rattle.cli_updates.proofs.PlanObjectLemmas.{made_appended}
use Rattle.cli_updates.proofs.plan_object.push_made.Goals as goal

pub returns : goal.returns
returns c =
    let change = option_map change_in c.args.change.now in
    made_appended (change_members c.args.items.now change) (reply_piece NoError) (codes ",\"serial\":") (decimal c.args.serial) (codes "}\n") c.args.text.now.items
    c.push_change.new.text.items c.push_reply.new.text.items c.push_number.new.text.items c.extend_from_slice.new.self.items
    c.in_ok-push_change.ensures c.in_ok-push_reply.ensures (rw c.from.ensures at c.in_ok-push_number.ensures) c.in_ok-extend_from_slice.ensures.items
