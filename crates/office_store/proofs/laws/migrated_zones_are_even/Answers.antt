use Rattle.office_store.proofs.MigratedRecordLaws.{migrated_zones_are_even}
use Rattle.office_store.proofs.laws.migrated_zones_are_even.Goals as goal

pub returns : goal.returns
returns c = migrated_zones_are_even
