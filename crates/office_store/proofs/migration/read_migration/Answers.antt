use Rattle.std.proofs.lemmas.Result.{IfErr-weaker}
use Rattle.office_store.proofs.MigrationLemmas.{rows_then}
use Rattle.office_store.proofs.migration.read_migration.Goals as goal

pub returns-in-Ok-clause-good : goal.returns-in-Ok-clause-good
returns-in-Ok-clause-good g c =
    λ clean. IfErr-weaker c.migration_from.result _ _ (λ e fails content h. fails content h.is (rows_then _ h.rows _ h.same (c.in-Ok.ensures.answer clean h.rows h.held))) c.migration_from.ensures.only
