use Rattle.office_core.proofs.SubtreeLemmas.{none_in_order}
use Rattle.office_core.proofs.listed.none_of.Goals as goal

pub returns-clause-order : goal.returns-clause-order
returns-clause-order g c = none_in_order c.new.result.items c.new.ensures.items
