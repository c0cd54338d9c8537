use Rattle.std.proofs.Common.{take}
use Rattle.zone_core.specs.Sets.{Records, part}
use Rattle.zone_core.specs.Parts.{at_names}
use Rattle.zone_core.specs.Rebuilt.{AreAllOf}
use Rattle.zone_tools.specs.Past.{IsPast}
use Rattle.zone_tools.proofs.past.rows_read.Given as goal

-- the rows are those at the origin and at the first names
abbrev pub invariant-loop-name : goal.invariant-loop-name
invariant-loop-name l = (set : Records) → IsPast l.past set → AreAllOf l.rows.items (part set (at_names l.origin (take l.name-index l.name-items)))
