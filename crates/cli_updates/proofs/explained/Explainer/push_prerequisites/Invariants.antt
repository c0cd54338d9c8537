use Rattle.std.proofs.Common.{◌≡◌, ◌++◌, ℕ, List, drop}
use Rattle.zone_core.specs.declared.update.ItemList.TheVariants as lists
use Rattle.zone_core.specs.declared.update.Prerequisite.{Prerequisite}
use Rattle.zone_core.specs.Updates.{tested_name}
use Rattle.office_core.specs.Footprints.{points_from, prerequisite_action}
use Rattle.cli_updates.specs.Explained.{point_texts}
use Rattle.cli_updates.proofs.explained.Explainer.push_prerequisites.Given as goal

-- the texts so far, and those of the items that are left
abbrev pub invariant-loop-i : goal.invariant-loop-i
invariant-loop-i l =
    let texts = λ (n : ℕ) (ps : List Prerequisite). point_texts l.fn.self.form l.fn.self.policy.now l.fn.self.caller.now (points_from tested_name prerequisite_action lists.Prerequisites n ps) in
    l.text.items ++ texts l.i (drop l.i l.prerequisites) ≡ l.initial.text.items ++ texts 0 l.prerequisites
