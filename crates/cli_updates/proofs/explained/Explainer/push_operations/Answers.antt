use Rattle.zone_core.specs.declared.update.ItemList.TheVariants as lists
use Rattle.zone_core.specs.Updates.{acted_name}
use Rattle.office_core.specs.Footprints.{operation_action}
use Rattle.cli_updates.proofs.ExplainedLemmas.{gone_on, next_item, items_ended}
use Rattle.cli_updates.proofs.explained.Explainer.push_operations.Goals as goal

pub loop-i-preserved : goal.loop-i-preserved
loop-i-preserved c =
    let form = c.args.self.form in
    let rules = c.args.self.policy.now in
    let caller = c.args.self.caller.now in
    gone_on form rules caller _ _ _ _ _ _ c.loop-i.invariant (next_item form rules caller acted_name (operation_action c.args.origin.now) lists.Operations c.args.operations.now c.loop-i.i _ c.loop-i-test.true c.index-operations-i.is) c.in_ok-push_operation.ensures

pub returns : goal.returns
returns c =
    items_ended c.args.self.form c.args.self.policy.now c.args.self.caller.now acted_name (operation_action c.args.origin.now) lists.Operations c.args.operations.now c.loop-i.i _ _ c.loop-i-test.false c.loop-i.invariant
