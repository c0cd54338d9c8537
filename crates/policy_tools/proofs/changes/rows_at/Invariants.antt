use Rattle.std.proofs.Common.{take}
use Rattle.policy_tools.specs.Claims.{rules_of}
use Rattle.policy_tools.specs.NameGroups.{groups_of}
use Rattle.policy_tools.specs.Changes.{AreChangesOf}
use Rattle.policy_tools.proofs.changes.rows_at.Given as goal

-- the rows of the groups of the tops so far
abbrev pub invariant-loop-top : goal.invariant-loop-top
invariant-loop-top l = AreChangesOf (rules_of l.versions.old.now) (rules_of l.versions.new.now) (groups_of (take l.top-index l.tops)) l.rows.items
