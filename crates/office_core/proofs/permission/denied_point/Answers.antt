use Rattle.std.proofs.Common.{sym, ◌∙◌}
use Rattle.office_core.specs.Items.{item_name, item_action}
use Rattle.office_core.proofs.PermissionLemmas.{decided_cost}
use Rattle.office_core.proofs.permission.denied_point.Goals as goal

pub returns-in-Granted-clause-cost : goal.returns-in-Granted-clause-cost
returns-in-Granted-clause-cost c =
    decided_cost c.args.policy.now c.args.caller.now c.args.place (item_name c.args.item) (item_action c.args.item) c.args.record_type _ _ _ (sym c.asks.ensures ∙ c.in_ok-action.was) (rw c.name.ensures at c.decide.ensures.cost)

pub returns-in-Denied-clause-cost : goal.returns-in-Denied-clause-cost
returns-in-Denied-clause-cost c =
    decided_cost c.args.policy.now c.args.caller.now c.args.place (item_name c.args.item) (item_action c.args.item) c.args.record_type _ _ _ (sym c.asks.ensures ∙ c.in_ok-action.was) (rw c.name.ensures at c.decide.ensures.cost)
