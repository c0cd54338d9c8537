use Rattle.std.proofs.Common.{◌≡◌, ◌||◌, take}
use Rattle.std.specs.BTreeSet.{contains}
use Rattle.zone_core.specs.Sets.{Key, key_cmp}
use Rattle.zone_tools.specs.History.{has_key}
use Rattle.zone_tools.proofs.history.touch_all.Given as goal

abbrev pub invariant-loop-record : goal.invariant-loop-record
invariant-loop-record l = (k : Key) → contains key_cmp l.touched k ≡ (contains key_cmp l.fn.touched k || has_key (take l.record-index l.records) k)
