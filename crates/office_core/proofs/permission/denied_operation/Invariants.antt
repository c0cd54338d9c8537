use Rattle.std.proofs.Common.{◌≡◌, ◌+◌, ◌≤◌, sum_by, drop}
use Rattle.zone_core.specs.declared.update.ItemList.TheVariants as lists
use Rattle.zone_core.specs.Updates.{acted_name}
use Rattle.office_core.specs.Footprints.{points_from, operation_action}
use Rattle.office_core.specs.Permissions.{first_denial, point_cost}
use Rattle.office_core.proofs.permission.denied_operation.Given as goal

-- no point of the items so far is denied, and no more look-ups were made than for these
abbrev pub invariant-loop-item : goal.invariant-loop-item
invariant-loop-item l =
    let points = points_from acted_name (operation_action l.origin) lists.Operations 0 l.operations in
    let rest = points_from acted_name (operation_action l.origin) lists.Operations l.item (drop l.item l.operations) in
    record {
      denial : first_denial l.policy l.caller points ≡ first_denial l.policy l.caller rest;
      cost : l.look_ups.count + sum_by (point_cost l.policy l.caller) rest ≤ l.fn.look_ups.count + sum_by (point_cost l.policy l.caller) points;
    }
