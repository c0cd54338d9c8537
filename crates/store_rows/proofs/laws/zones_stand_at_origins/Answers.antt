use Rattle.store_rows.proofs.OriginLaws.{zones_stand_at_origins}
use Rattle.store_rows.proofs.laws.zones_stand_at_origins.Goals as goal

pub returns : goal.returns
returns c = zones_stand_at_origins
