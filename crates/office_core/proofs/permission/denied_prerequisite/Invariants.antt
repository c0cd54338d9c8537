use Rattle.std.proofs.Common.{◌≡◌, ◌+◌, ◌≤◌, sum_by, drop}
use Rattle.zone_core.specs.declared.update.ItemList.TheVariants as lists
use Rattle.zone_core.specs.Updates.{tested_name}
use Rattle.office_core.specs.Footprints.{points_from, prerequisite_action}
use Rattle.office_core.specs.Permissions.{first_denial, point_cost}
use Rattle.office_core.proofs.permission.denied_prerequisite.Given as goal

-- no point of the items so far is denied, and no more look-ups were made than for these
abbrev pub invariant-loop-item : goal.invariant-loop-item
invariant-loop-item l =
    let points = points_from tested_name prerequisite_action lists.Prerequisites 0 l.prerequisites in
    let rest = points_from tested_name prerequisite_action lists.Prerequisites l.item (drop l.item l.prerequisites) in
    record {
      denial : first_denial l.policy l.caller points ≡ first_denial l.policy l.caller rest;
      cost : l.look_ups.count + sum_by (point_cost l.policy l.caller) rest ≤ l.fn.look_ups.count + sum_by (point_cost l.policy l.caller) points;
    }
