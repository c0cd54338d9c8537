use Rattle.std.proofs.Common.{◌≡◌, ◌++◌, not, take, Some}
use Rattle.std.specs.FinMap.{get}
use Rattle.std.specs.List.{filter}
use Rattle.zone_core.specs.Sets.{key_of, set_of, same_ttl}
use Rattle.zone_core.proofs.rows.push_difference.Given as goal

abbrev pub invariant-loop-record : goal.invariant-loop-record
invariant-loop-record l = l.found.items ≡ l.fn.found.items ++ filter (λ r. not (same_ttl (Some r) (get (set_of l.others) (key_of r)))) (take l.record-index l.records)
