use Rattle.office_wire.proofs.LifetimeLemmas as the
use Rattle.office_wire.proofs.laws.histories_are_one.Goals as goal

pub returns : goal.returns
returns c = the.histories_are_one
