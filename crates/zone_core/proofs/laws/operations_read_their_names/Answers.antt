use Rattle.zone_core.proofs.PartLemmas.{operations_read}
use Rattle.zone_core.proofs.laws.operations_read_their_names.Goals as goal

pub returns : goal.returns
returns c = operations_read
