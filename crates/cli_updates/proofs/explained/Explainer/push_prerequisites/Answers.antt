use Rattle.zone_core.specs.declared.update.ItemList.TheVariants as lists
use Rattle.zone_core.specs.Updates.{tested_name}
use Rattle.office_core.specs.Footprints.{prerequisite_action}
use Rattle.cli_updates.proofs.ExplainedLemmas.{gone_on, next_item, items_ended}
use Rattle.cli_updates.proofs.explained.Explainer.push_prerequisites.Goals as goal

pub loop-i-preserved : goal.loop-i-preserved
loop-i-preserved c =
    let form = c.args.self.form in
    let rules = c.args.self.policy.now in
    let caller = c.args.self.caller.now in
    gone_on form rules caller _ _ _ _ _ _ c.loop-i.invariant (next_item form rules caller tested_name prerequisite_action lists.Prerequisites c.args.prerequisites.now c.loop-i.i _ c.loop-i-test.true c.index-prerequisites-i.is) c.in_ok-push_prerequisite.ensures

pub returns : goal.returns
returns c =
    items_ended c.args.self.form c.args.self.policy.now c.args.self.caller.now tested_name prerequisite_action lists.Prerequisites c.args.prerequisites.now c.loop-i.i _ _ c.loop-i-test.false c.loop-i.invariant
