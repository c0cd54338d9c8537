use Rattle.std.proofs.Common.{sym, ◌∙◌, arith}
use Rattle.office_core.specs.Items.{item_name, item_action}
use Rattle.office_core.proofs.PermissionLemmas.{ended, gone_on, next_type, next_type_cost}
use Rattle.office_core.proofs.permission.denied_item.Goals as goal

pub loop-record_type-preserved : goal.loop-record_type-preserved
loop-record_type-preserved c =
    let step = next_type c.args.policy.now c.args.caller.now c.args.place (item_name c.args.item) (item_action c.args.item) c.args.record_types.now c.loop-record_type.record_type-index _ c.loop-record_type-test.true in
    let cost = next_type_cost c.args.policy.now c.args.caller.now c.args.place (item_name c.args.item) (item_action c.args.item) c.args.record_types.now c.loop-record_type.record_type-index _ _ _ _ c.loop-record_type-test.true c.denied_point-denial.ensures.cost c.loop-record_type.invariant.cost in
    record {
      denial = gone_on c.denied_point-denial.result _ _ _ (c.loop-record_type.invariant.denial ∙ step) c.denied_point-denial.ensures.denial (sym c.is_some.ensures ∙ c.if-is_some.false);
      cost = cost;
    }

pub returns-then-is_some-clause-denial : goal.returns-then-is_some-clause-denial
returns-then-is_some-clause-denial c =
    let step = next_type c.args.policy.now c.args.caller.now c.args.place (item_name c.args.item) (item_action c.args.item) c.args.record_types.now c.loop-record_type.record_type-index _ c.loop-record_type-test.true in
    ended c.denied_point-denial.result _ _ _ (c.loop-record_type.invariant.denial ∙ step) c.denied_point-denial.ensures.denial (sym c.is_some.ensures ∙ c.if-is_some.true)

pub returns-then-is_some-clause-cost : goal.returns-then-is_some-clause-cost
returns-then-is_some-clause-cost c =
    let cost = next_type_cost c.args.policy.now c.args.caller.now c.args.place (item_name c.args.item) (item_action c.args.item) c.args.record_types.now c.loop-record_type.record_type-index _ _ _ _ c.loop-record_type-test.true c.denied_point-denial.ensures.cost c.loop-record_type.invariant.cost in
    omega (arith, cost)
