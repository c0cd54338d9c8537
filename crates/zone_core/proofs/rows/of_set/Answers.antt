use Rattle.zone_core.specs.Sets.{at, key_of}
use Rattle.zone_core.proofs.RangeLemmas.{filter_run}
use Rattle.zone_core.proofs.rows.of_set.Goals as goal

pub returns : goal.returns
returns c = filter_run (λ r. at c.args.name.now c.args.record_type (key_of r)) c.args.records.now c.set_bounds-start.result.0 c.set_bounds-start.result.1 c.set_bounds-start.ensures
