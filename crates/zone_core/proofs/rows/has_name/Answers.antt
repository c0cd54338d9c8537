use Rattle.zone_core.specs.Sets.{at_name}
use Rattle.zone_core.proofs.RowLemmas.{some_in_run}
use Rattle.zone_core.proofs.rows.has_name.Goals as goal

pub returns : goal.returns
returns c = some_in_run (at_name c.args.name.now) c.args.records.now c.at_name.result.now c.is_empty.result c.requires c.at_name.ensures c.is_empty.ensures
