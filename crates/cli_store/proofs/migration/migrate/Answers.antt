use Rattle.cli_store.specs.Migrate.{migration_told}
use Rattle.cli_store.proofs.StoreLemmas.{migration_gives, gives_at_once, reported_answered}
use Rattle.std.proofs.Common.{None}
use Rattle.std.specs.Bool.{⊤}
use Rattle.cli_store.proofs.migration.migrate.Goals as goal

pub returns-clause-written : goal.returns-clause-written
returns-clause-written g c =
    let told = migration_told c.migrate_store-conn.result.1 in
    let x = migration_gives c.migrate_store-conn.result.1 in
    (x.0, x.1, reported_answered None (λ _. x.0) _ _ ⊤ ⊥ _ _ told c.report.result (gives_at_once x.0 told x.2) c.report.ensures)

pub returns-clause-migrated : goal.returns-clause-migrated
returns-clause-migrated g c = (c.migrate_store-conn.result.1, c.migrate_store-conn.ensures, c.report.ensures)
