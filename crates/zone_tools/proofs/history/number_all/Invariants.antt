use Rattle.std.proofs.Common.{◌≡◌, take, cond, Some}
use Rattle.std.specs.BTreeMap.{get}
use Rattle.zone_core.specs.Sets.{Key, key_cmp}
use Rattle.zone_tools.specs.History.{has_key}
use Rattle.zone_tools.proofs.history.number_all.Given as goal

abbrev pub invariant-loop-record : goal.invariant-loop-record
invariant-loop-record l = (k : Key) → get key_cmp l.bringers k ≡ cond (has_key (take l.record-index l.records) k) (Some l.number) (get key_cmp l.fn.bringers k)
