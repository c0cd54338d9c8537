use Rattle.std.proofs.Common.{◌≡◌, ◌+◌, ◌≤◌, sum_by, drop}
use Rattle.office_core.specs.Footprints.{points_at}
use Rattle.office_core.specs.Items.{item_name, item_action}
use Rattle.office_core.specs.Permissions.{first_denial, point_cost}
use Rattle.office_core.proofs.permission.denied_item.Given as goal

-- no point of the types so far is denied, and no more look-ups were made than for these
abbrev pub invariant-loop-record_type : goal.invariant-loop-record_type
invariant-loop-record_type l =
    let points = points_at l.place (item_name l.item) (item_action l.item) l.record_types in
    let rest = points_at l.place (item_name l.item) (item_action l.item) (drop l.record_type-index l.record_types) in
    record {
      denial : first_denial l.policy l.caller points ≡ first_denial l.policy l.caller rest;
      cost : l.look_ups.count + sum_by (point_cost l.policy l.caller) rest ≤ l.fn.look_ups.count + sum_by (point_cost l.policy l.caller) points;
    }
