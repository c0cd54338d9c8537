use Rattle.std.proofs.Common.{◌≡◌, map, take, ◌&&◌}
use Rattle.std.specs.List.{filter, flat_map}
use Rattle.cli_updates.specs.Guards.{set_like, is_first, changes_set, there}
use Rattle.cli_updates.proofs.guard.guards_there.Given as goal

abbrev pub invariant-loop-record : goal.invariant-loop-record
invariant-loop-record l =
    l.guards.items ≡ flat_map (λ r. map there (set_like l.old.records r)) (filter (λ r. is_first l.old.records r && changes_set l.old.records l.new.records l.operations r) (take l.record-index l.record-items))
