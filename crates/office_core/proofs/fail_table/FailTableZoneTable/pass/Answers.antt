use Rattle.office_core.proofs.FailTableLemmas.{reads_within}
use Rattle.office_core.proofs.fail_table.FailTableZoneTable.pass.Goals as goal

pub returns-clause-reads : goal.returns-clause-reads
returns-clause-reads g c = reads_within _ _ _ _ _ _ c.in_ok-call.ensures.table c.in_ok-call.ensures.counts c.pass.ensures.reads

pub returns-clause-passed : goal.returns-clause-passed
returns-clause-passed g c = rw c.in_ok-call.ensures.table at c.pass.ensures.passed
