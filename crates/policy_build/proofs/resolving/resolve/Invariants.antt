use Rattle.std.proofs.Common.{◌≡◌, [], drop}
use Rattle.policy_build.specs.Resolving.{rows_from}
use Rattle.policy_build.proofs.resolving.resolve.Given as goal

-- the rows so far, before those of the other groups
abbrev pub invariant-loop-group : goal.invariant-loop-group
invariant-loop-group g l = rows_from [] l.groups ≡ rows_from l.rows.items (drop l.group-index l.groups)
