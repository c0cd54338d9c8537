use Rattle.std.proofs.Common.{◌≡◌, take}
use Rattle.office_store.specs.MigrationSteps.{last_number}
use Rattle.office_store.proofs.migration_steps.last_number.Given as goal

abbrev pub invariant-loop-change : goal.invariant-loop-change
invariant-loop-change l = l.number ≡ last_number (take l.change-index l.changes)
