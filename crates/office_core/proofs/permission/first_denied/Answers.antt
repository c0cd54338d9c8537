use Rattle.zone_core.specs.declared.update.ItemList.TheVariants as lists
use Rattle.zone_core.specs.Updates.{tested_name, acted_name}
use Rattle.office_core.specs.Footprints.{points_from, prerequisite_action, operation_action}
use Rattle.office_core.specs.Permissions.{denial_of}
use Rattle.office_core.proofs.PermissionLemmas.{by_first, by_second, of_first_cost, of_both_cost}
use Rattle.office_core.proofs.permission.first_denied.Goals as goal

pub returns-in-Some-clause-denial : goal.returns-in-Some-clause-denial
returns-in-Some-clause-denial c =
    let tests = points_from tested_name prerequisite_action lists.Prerequisites 0 c.args.update.now.prerequisites in
    let acts = points_from acted_name (operation_action c.args.origin.now) lists.Operations 0 c.args.update.now.operations in
    by_first c.args.policy.now c.args.caller.now tests acts (denial_of c.in-Some.denial) (rw c.prerequisites.ensures.value at c.in-Some.ensures.denial)

pub returns-in-None-clause-denial : goal.returns-in-None-clause-denial
returns-in-None-clause-denial c =
    let tests = points_from tested_name prerequisite_action lists.Prerequisites 0 c.args.update.now.prerequisites in
    let acts = points_from acted_name (operation_action c.args.origin.now) lists.Operations 0 c.args.update.now.operations in
    by_second c.args.policy.now c.args.caller.now tests acts _ (rw c.prerequisites.ensures.value at c.in-None.ensures.denial) (rw c.operations.ensures.value at c.denied_operation.ensures.denial)

pub returns-in-Some-clause-cost : goal.returns-in-Some-clause-cost
returns-in-Some-clause-cost c =
    let tests = points_from tested_name prerequisite_action lists.Prerequisites 0 c.args.update.now.prerequisites in
    let acts = points_from acted_name (operation_action c.args.origin.now) lists.Operations 0 c.args.update.now.operations in
    of_first_cost c.args.policy.now c.args.caller.now tests acts _ _ (rw c.prerequisites.ensures.value at c.in-Some.ensures.cost)

pub returns-in-None-clause-cost : goal.returns-in-None-clause-cost
returns-in-None-clause-cost c =
    let tests = points_from tested_name prerequisite_action lists.Prerequisites 0 c.args.update.now.prerequisites in
    let acts = points_from acted_name (operation_action c.args.origin.now) lists.Operations 0 c.args.update.now.operations in
    of_both_cost c.args.policy.now c.args.caller.now tests acts _ _ _ (rw c.prerequisites.ensures.value at c.in-None.ensures.cost) (rw c.operations.ensures.value at c.denied_operation.ensures.cost)
