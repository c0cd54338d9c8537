use Rattle.zone_core.proofs.PartLemmas.{verdict_reads}
use Rattle.zone_core.proofs.laws.verdicts_read_their_names.Goals as goal

pub returns : goal.returns
returns c = verdict_reads
