use Rattle.std.proofs.Common.{◌≡◌, ◌-◌, ◌^◌, take, min}
use Rattle.std.specs.List.{sum_by}
use Rattle.zone_tools.specs.LargeSets.{entry_len}
use Rattle.zone_tools.proofs.large_record_sets.set_len.Given as goal

abbrev pub invariant-loop-record : goal.invariant-loop-record
invariant-loop-record l = l.len ≡ min (sum_by entry_len (take l.record-index l.set)) (2 ^ 64 - 1)
