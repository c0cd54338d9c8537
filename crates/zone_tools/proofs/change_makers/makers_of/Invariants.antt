use Rattle.std.proofs.Common.{take}
use Rattle.zone_core.specs.Sets.{Records}
use Rattle.zone_core.specs.Changes.{change_in}
use Rattle.zone_tools.specs.Makers.{zone_read}
use Rattle.zone_tools.specs.Past.{IsPast}
use Rattle.zone_tools.proofs.ActorLemmas.{Chosen, Makes}
use Rattle.zone_tools.proofs.change_makers.makers_of.Given as goal

-- of the first of those that act at a name of the change, those are chosen that may have made it
abbrev pub invariant-loop-index : goal.invariant-loop-index
invariant-loop-index l = (set : Records) → IsPast l.past set
    → Chosen (Makes (zone_read l.origin set) l.updates (change_in l.change)) (take l.index-index l.candidates) l.indexes.items
