use Rattle.std.proofs.Common.{ap, refl}
use Rattle.zone_core.specs.Zones.{ZoneOf}
use Rattle.zone_core.proofs.RowLemmas.{listed_all}
use Rattle.zone_core.proofs.zone.Zone.into_records.Goals as goal

pub returns-clause-value : goal.returns-clause-value
returns-clause-value c = listed_all c.self.inside.records.items c.self.inside.records.items c.args.self.records refl (ap (λ (z : ZoneOf). z.records) c.self.view_is) c.self.invariant.order
