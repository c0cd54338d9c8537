use Rattle.std.proofs.Common.{◌≡◌, map, drop}
use Rattle.std.specs.FinMap.{get}
use Rattle.std.specs.BTreeSet.{contains}
use Rattle.zone_core.specs.Sets.{Key, key_cmp, set_of}
use Rattle.zone_core.specs.Changes.{change_in}
use Rattle.zone_tools.specs.History.{before, found_in}
use Rattle.zone_tools.proofs.history.records_before.Given as goal

-- what is found in the rows, and else, unless it was touched, before the changes that are left, is what is found before all
abbrev pub invariant-loop-change : goal.invariant-loop-change
invariant-loop-change l = (k : Key)
    → found_in l.rows.items (contains key_cmp l.touched) (before (map change_in (drop l.change-index l.changes)) (set_of l.records)) k
    ≡ get (before (map change_in l.changes) (set_of l.records)) k
