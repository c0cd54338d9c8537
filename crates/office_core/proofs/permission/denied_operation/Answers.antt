use Rattle.std.proofs.Common.{sym, ◌∙◌, arith}
use Rattle.zone_core.specs.declared.update.ItemList.TheVariants as lists
use Rattle.zone_core.specs.Updates.{acted_name, place_in}
use Rattle.office_core.specs.Footprints.{operation_action}
use Rattle.office_core.proofs.PermissionLemmas.{ended, gone_on, next_item, of_item, next_item_cost, of_item_cost}
use Rattle.office_core.proofs.permission.denied_operation.Goals as goal

pub loop-item-preserved : goal.loop-item-preserved
loop-item-preserved c =
    let x = c.index-operations-item.result in
    let i = c.loop-item.item in
    let step = next_item c.args.policy.now c.args.caller.now acted_name (operation_action c.args.origin.now) lists.Operations c.args.operations.now i x c.loop-item-test.true c.index-operations-item.is in
    let one = of_item c.args.policy.now c.args.caller.now (place_in lists.Operations i) (acted_name x) (operation_action c.args.origin.now x) _ c.denied_item-denial.ensures.denial in
    let cost = next_item_cost c.args.policy.now c.args.caller.now acted_name (operation_action c.args.origin.now) lists.Operations c.args.operations.now i x c.loop-item-test.true c.index-operations-item.is in
    let one_cost = of_item_cost c.args.policy.now c.args.caller.now (place_in lists.Operations i) (acted_name x) (operation_action c.args.origin.now x) _ _ c.denied_item-denial.ensures.cost in
    record {
      denial = gone_on c.denied_item-denial.result _ _ _ (c.loop-item.invariant.denial ∙ step) one (sym c.is_some.ensures ∙ c.if-is_some.false);
      cost = omega (arith, cost, one_cost, c.loop-item.invariant.cost);
    }

pub returns-then-is_some-clause-denial : goal.returns-then-is_some-clause-denial
returns-then-is_some-clause-denial c =
    let x = c.index-operations-item.result in
    let i = c.loop-item.item in
    let step = next_item c.args.policy.now c.args.caller.now acted_name (operation_action c.args.origin.now) lists.Operations c.args.operations.now i x c.loop-item-test.true c.index-operations-item.is in
    let one = of_item c.args.policy.now c.args.caller.now (place_in lists.Operations i) (acted_name x) (operation_action c.args.origin.now x) _ c.denied_item-denial.ensures.denial in
    ended c.denied_item-denial.result _ _ _ (c.loop-item.invariant.denial ∙ step) one (sym c.is_some.ensures ∙ c.if-is_some.true)

pub returns-then-is_some-clause-cost : goal.returns-then-is_some-clause-cost
returns-then-is_some-clause-cost c =
    let x = c.index-operations-item.result in
    let i = c.loop-item.item in
    let cost = next_item_cost c.args.policy.now c.args.caller.now acted_name (operation_action c.args.origin.now) lists.Operations c.args.operations.now i x c.loop-item-test.true c.index-operations-item.is in
    let one_cost = of_item_cost c.args.policy.now c.args.caller.now (place_in lists.Operations i) (acted_name x) (operation_action c.args.origin.now x) _ _ c.denied_item-denial.ensures.cost in
    omega (arith, cost, one_cost, c.loop-item.invariant.cost)
