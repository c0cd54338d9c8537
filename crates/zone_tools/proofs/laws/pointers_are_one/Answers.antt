use Rattle.zone_tools.proofs.PointerLemmas.{pointers_one}
use Rattle.zone_tools.proofs.laws.pointers_are_one.Goals as goal

pub returns : goal.returns
returns c = pointers_one
