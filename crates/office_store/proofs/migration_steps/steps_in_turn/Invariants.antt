use Rattle.office_store.proofs.MigrationWalkLemmas.{IsWalked}
use Rattle.office_store.proofs.migration_steps.steps_in_turn.Given as goal

-- what is left, with what is written already, is the whole
abbrev pub invariant-loop-origin : goal.invariant-loop-origin
invariant-loop-origin l = IsWalked l.fn.origins l.fn.records l.fn.changes l.origin-index l.records l.changes l.steps
