use Rattle.std.proofs.Common.{not, ◌∙◌}
use Rattle.dns_data.specs.declared.record.Record.{Record}
use Rattle.zone_core.specs.Sets.{key_of}
use Rattle.zone_core.specs.Zones.{beside}
use Rattle.zone_core.proofs.MergeLemmas.{count_is}
use Rattle.zone_core.proofs.build.count_beside.Goals as goal

pub returns : goal.returns
returns c = c.unwrap_or.ensures ∙ count_is (λ (r : Record). not (beside (key_of c.args.rr.now) (key_of r))) c.args.records.now c.first_apart.result c.first_apart.ensures
