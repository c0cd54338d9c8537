use Rattle.std.proofs.Common.{◌≡◌, ℕ, List, ◌++◌, take}
use Rattle.zone_tools.specs.Past.{acts_at, actors_at}
use Rattle.zone_tools.proofs.ActorLemmas.{once}
use Rattle.zone_tools.proofs.change_makers.add_update.Given as goal

-- the index is added at the names of the first operations
abbrev pub invariant-loop-i : goal.invariant-loop-i
invariant-loop-i l = (q : List (List ℕ)) → actors_at l.actors q ≡ actors_at l.fn.actors q ++ once (acts_at q (take l.i l.operations)) l.index
