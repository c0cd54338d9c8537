use Rattle.std.proofs.Common.{take}
use Rattle.policy_tools.specs.NameGroups.{AreRightsOf, groups_of}
use Rattle.policy_tools.proofs.name_groups.rows_at.Given as goal

-- the rows of the groups of the tops so far
abbrev pub invariant-loop-top : goal.invariant-loop-top
invariant-loop-top l = AreRightsOf l.rules (groups_of (take l.top-index l.tops)) l.rows.items
