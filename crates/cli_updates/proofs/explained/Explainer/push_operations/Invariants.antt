use Rattle.std.proofs.Common.{◌≡◌, ◌++◌, ℕ, List, drop}
use Rattle.zone_core.specs.declared.update.ItemList.TheVariants as lists
use Rattle.zone_core.specs.declared.update.Operation.{Operation}
use Rattle.zone_core.specs.Updates.{acted_name}
use Rattle.office_core.specs.Footprints.{operation_action, points_from}
use Rattle.cli_updates.specs.Explained.{point_texts}
use Rattle.cli_updates.proofs.explained.Explainer.push_operations.Given as goal

-- the texts so far, and those of the items that are left
abbrev pub invariant-loop-i : goal.invariant-loop-i
invariant-loop-i l =
    let texts = λ (n : ℕ) (ops : List Operation). point_texts l.fn.self.form l.fn.self.policy.now l.fn.self.caller.now (points_from acted_name (operation_action l.origin) lists.Operations n ops) in
    l.text.items ++ texts l.i (drop l.i l.operations) ≡ l.initial.text.items ++ texts 0 l.operations
