use Rattle.office_wire.proofs.TakenLemmas.{their_paths}
use Rattle.office_wire.proofs.laws.routes_are_their_paths.Goals as goal

pub returns : goal.returns
returns c = their_paths
