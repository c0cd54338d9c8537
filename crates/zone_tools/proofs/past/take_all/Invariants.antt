use Rattle.std.proofs.Common.{take}
use Rattle.zone_core.specs.Sets.{Records}
use Rattle.zone_core.specs.Changes.{without}
use Rattle.zone_tools.specs.Past.{IsPast}
use Rattle.zone_tools.proofs.past.take_all.Given as goal

abbrev pub invariant-loop-record : goal.invariant-loop-record
invariant-loop-record l = (set : Records) → IsPast l.fn.past set → IsPast l.past (without set (take l.record-index l.records))
