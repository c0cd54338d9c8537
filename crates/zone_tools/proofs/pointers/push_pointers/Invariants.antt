use Rattle.std.proofs.Common.{◌≡◌, ◌++◌, take}
use Rattle.zone_tools.specs.Pointers.{called}
use Rattle.zone_tools.proofs.pointers.push_pointers.Given as goal

abbrev pub invariant-loop-record : goal.invariant-loop-record
invariant-loop-record l = l.pointers.items ≡ l.fn.pointers.items ++ called l.origin (take l.record-index l.records)
