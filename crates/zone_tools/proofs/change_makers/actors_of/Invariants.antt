use Rattle.std.proofs.Common.{◌≡◌, ℕ, List, take}
use Rattle.std.specs.List.{AllByRecursion}
use Rattle.zone_core.specs.Updates.{IsUpdate}
use Rattle.zone_tools.specs.Past.{actors_at, actors_from}
use Rattle.zone_tools.proofs.change_makers.actors_of.Given as goal

abbrev pub invariant-loop-i : goal.invariant-loop-i
invariant-loop-i l = record {
  actors : (q : List (List ℕ)) → actors_at l.actors q ≡ actors_from q 0 (take l.i l.updates);
  updates : AllByRecursion IsUpdate (take l.i l.updates);
}
