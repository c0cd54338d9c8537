use Rattle.std.proofs.Common.{not, ap}
use Rattle.zone_tools.proofs.change_makers.lacks.Goals as goal

pub returns-in-Some : goal.returns-in-Some
returns-in-Some c = rw c.in-Some.is (ap not c.adds_some.ensures)
