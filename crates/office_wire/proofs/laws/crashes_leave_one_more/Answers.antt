use Rattle.office_wire.proofs.CrashLemmas as the
use Rattle.office_wire.proofs.laws.crashes_leave_one_more.Goals as goal

pub returns : goal.returns
returns c = the.crashes_leave_one_more
