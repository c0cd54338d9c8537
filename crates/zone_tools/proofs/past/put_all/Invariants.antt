use Rattle.std.proofs.Common.{drop}
use Rattle.zone_core.specs.Sets.{Records}
use Rattle.zone_tools.specs.Past.{IsPast, with_all}
use Rattle.zone_tools.proofs.past.put_all.Given as goal

-- the records from `at` on are put
abbrev pub invariant-loop-at : goal.invariant-loop-at
invariant-loop-at l = (set : Records) → IsPast l.fn.past set → IsPast l.past (with_all set (drop l.at l.records))
