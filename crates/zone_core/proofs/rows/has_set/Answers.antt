use Rattle.zone_core.specs.Sets.{at}
use Rattle.zone_core.proofs.RowLemmas.{some_in_run}
use Rattle.zone_core.proofs.rows.has_set.Goals as goal

pub returns : goal.returns
returns c = some_in_run (at c.args.name.now c.args.record_type) c.args.records.now c.of_set.result.now c.is_empty.result c.requires c.of_set.ensures c.is_empty.ensures
