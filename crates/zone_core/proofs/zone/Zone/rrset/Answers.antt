use Rattle.std.proofs.Common.{ap, ◌∙◌}
use Rattle.zone_core.specs.Sets.{at}
use Rattle.zone_core.specs.Zones.{ZoneOf}
use Rattle.zone_core.proofs.RowLemmas.{listed_part}
use Rattle.zone_core.proofs.zone.Zone.rrset.Goals as goal

pub returns : goal.returns
returns c =
    c.of_set.ensures
    ∙ listed_part (at c.args.name.now c.args.record_type) c.self.inside.records.items c.deref.result.now c.args.self.now.records c.deref.ensures.value (ap (λ (z : ZoneOf). z.records) c.self.view_is) c.self.invariant.order
