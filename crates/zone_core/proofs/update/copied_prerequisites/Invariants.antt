use Rattle.std.proofs.Common.{◌≡◌, take}
use Rattle.zone_core.proofs.update.copied_prerequisites.Given as goal

abbrev pub invariant-loop-prerequisite : goal.invariant-loop-prerequisite
invariant-loop-prerequisite l = l.copies.items ≡ take l.prerequisite-index l.prerequisites
