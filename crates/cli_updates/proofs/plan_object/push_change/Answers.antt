use Rattle.std.proofs.Common.{[], ◌∷◌, codes, option_map}
use Rattle.zone_core.specs.Changes.{change_in}
use Rattle.wire_json.specs.Replies.{lines_value}
use Rattle.cli_updates.specs.PlanObjects.{added_by, removed_by}
use Rattle.cli_updates.proofs.PlanObjectLemmas.{change_appended}
use Rattle.cli_updates.proofs.plan_object.push_change.Goals as goal

pub returns : goal.returns
returns c =
    let change = option_map change_in c.args.change.now in
    change_appended (codes "{\"added\":") (lines_value (added_by change)) (44 ∷ []) c.args.items.now (codes "\"removed\":") (lines_value (removed_by change)) (44 ∷ []) c.args.text.now.items
    c.push_section.new.text.items c.push.new.self.items c.extend_from_slice.new.self.items c.push_section-2.new.text.items c.push-2.new.self.items
    (rw c.added.ensures at c.in_ok-push_section.ensures) c.in_ok-push.ensures.items c.in_ok-extend_from_slice.ensures.items
    (rw c.removed.ensures at c.in_ok-push_section-2.ensures) c.in_ok-push-2.ensures.items
