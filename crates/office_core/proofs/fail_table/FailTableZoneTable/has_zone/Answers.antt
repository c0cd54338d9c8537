use Rattle.office_core.proofs.FailTableLemmas.{reads_within}
use Rattle.office_core.proofs.fail_table.FailTableZoneTable.has_zone.Goals as goal

pub returns-clause-reads : goal.returns-clause-reads
returns-clause-reads g c = reads_within _ _ _ _ _ _ c.in_ok-call.ensures.table c.in_ok-call.ensures.counts c.has_zone.ensures.reads
