use Rattle.std.proofs.Common.{ℕ, List, ◌++◌, map, take}
use Rattle.policy_tools.specs.Changes.{AreChangeRows}
use Rattle.policy_tools.proofs.name_changes.add_callers.Given as goal

-- the rows of the callers so far
abbrev pub invariant-loop-row : goal.invariant-loop-row
invariant-loop-row l =
    (seen : List (List ℕ)) → AreChangeRows l.versions.old.now l.versions.new.now l.versions.others.now seen l.initial.rows.items
    → AreChangeRows l.versions.old.now l.versions.new.now l.versions.others.now (seen ++ map (λ r. r.caller) (take l.row-index l.callers)) l.rows.items
