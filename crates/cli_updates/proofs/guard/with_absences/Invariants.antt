use Rattle.std.proofs.Common.{◌≡◌, ◌++◌, take, ◌&&◌}
use Rattle.std.specs.List.{filter, flat_map}
use Rattle.cli_updates.specs.Guards.{is_first, is_new, not_there}
use Rattle.cli_updates.proofs.guard.with_absences.Given as goal

abbrev pub invariant-loop-record : goal.invariant-loop-record
invariant-loop-record l =
    l.guards.items ≡ l.fn.guards.items ++ flat_map (not_there l.scope l.old.records l.new.records) (filter (λ r. is_first l.new.records r && is_new l.old.records r) (take l.record-index l.record-items))
