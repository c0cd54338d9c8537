use Rattle.std.proofs.Common.{take}
use Rattle.std.specs.List.{AllByRecursion}
use Rattle.zone_core.specs.Updates.{IsPrerequisite}
use Rattle.zone_core.proofs.invariants.reveal_prerequisites.Given as goal

abbrev pub invariant-loop-prerequisite : goal.invariant-loop-prerequisite
invariant-loop-prerequisite l = AllByRecursion IsPrerequisite (take l.prerequisite-index l.prerequisites)
