use Rattle.office_core.proofs.FootprintLaws.{are_asked, are_in_order}
use Rattle.office_core.proofs.laws.footprints_are_asked_in_order.Goals as goal

pub returns-clause-points : goal.returns-clause-points
returns-clause-points c = are_asked

pub returns-clause-order : goal.returns-clause-order
returns-clause-order c = are_in_order
