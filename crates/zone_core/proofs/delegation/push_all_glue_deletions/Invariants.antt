use Rattle.std.proofs.Common.{◌≡◌, ◌++◌, take}
use Rattle.std.specs.List.{flat_map}
use Rattle.zone_core.specs.Delegations.{glue_deletions}
use Rattle.zone_core.proofs.delegation.push_all_glue_deletions.Given as goal

abbrev pub invariant-loop-server : goal.invariant-loop-server
invariant-loop-server l = l.operations.items ≡ l.fn.operations.items ++ flat_map (glue_deletions l.child) (take l.server-index l.servers)
