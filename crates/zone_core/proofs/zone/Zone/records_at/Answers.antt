use Rattle.std.proofs.Common.{ap, ◌∙◌}
use Rattle.zone_core.specs.Sets.{at_name}
use Rattle.zone_core.specs.Zones.{ZoneOf}
use Rattle.zone_core.proofs.RowLemmas.{listed_part}
use Rattle.zone_core.proofs.zone.Zone.records_at.Goals as goal

pub returns : goal.returns
returns c =
    c.at_name.ensures
    ∙ listed_part (at_name c.args.name.now) c.self.inside.records.items c.deref.result.now c.args.self.now.records c.deref.ensures.value (ap (λ (z : ZoneOf). z.records) c.self.view_is) c.self.invariant.order
