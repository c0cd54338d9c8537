use Rattle.std.proofs.Common.{◌≡◌, map, take}
use Rattle.std.specs.BTreeMap.{get}
use Rattle.zone_core.specs.Sets.{Key, key_cmp}
use Rattle.zone_core.specs.Changes.{change_in}
use Rattle.zone_tools.specs.History.{bringer}
use Rattle.zone_tools.proofs.history.bringers_in.Given as goal

abbrev pub invariant-loop-i : goal.invariant-loop-i
invariant-loop-i l = (k : Key) → get key_cmp l.bringers k ≡ bringer (map change_in (take l.i l.changes)) k
