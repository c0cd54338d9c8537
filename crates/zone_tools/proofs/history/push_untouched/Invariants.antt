use Rattle.std.proofs.Common.{◌≡◌, take}
use Rattle.std.specs.FinMap.{get}
use Rattle.std.specs.BTreeSet.{contains}
use Rattle.zone_core.specs.Sets.{Key, key_cmp, set_of}
use Rattle.zone_tools.specs.History.{found_in}
use Rattle.zone_tools.proofs.history.push_untouched.Given as goal

abbrev pub invariant-loop-record : goal.invariant-loop-record
invariant-loop-record l = (k : Key) → get (set_of l.rows.items) k ≡ found_in l.fn.rows.items (contains key_cmp l.touched) (set_of (take l.record-index l.records)) k
