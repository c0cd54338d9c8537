use Rattle.store_rows.proofs.StateLaws.{zones_are_listed}
use Rattle.store_rows.proofs.laws.zones_are_listed.Goals as goal

pub returns : goal.returns
returns c = zones_are_listed
