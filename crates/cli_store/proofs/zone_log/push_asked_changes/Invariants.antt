use Rattle.std.proofs.Common.{◌≡◌, ◌++◌, take, map}
use Rattle.std.specs.List.{filter, flat_map}
use Rattle.zone_core.specs.Changes.{change_in}
use Rattle.office_core.specs.Machine.{numbered}
use Rattle.cli_store.specs.Log.{asks_change, change_shown}
use Rattle.cli_store.proofs.zone_log.push_asked_changes.Given as goal

abbrev pub invariant-loop-i : goal.invariant-loop-i
invariant-loop-i l = l.text.items ≡ l.initial.text.items ++ flat_map (change_shown l.asked.form) (filter (asks_change l.asked) (numbered 1 (map change_in (take l.i l.changes))))
