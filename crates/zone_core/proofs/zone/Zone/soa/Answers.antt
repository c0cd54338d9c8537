use Rattle.std.proofs.Common.{◌≡◌, subst, Some, rules}
use Rattle.zone_core.specs.Zones.{ZoneOf, IsSoaOf, soa_at}
use Rattle.zone_core.proofs.SoaFirstLemmas.{some_row, front_is, soa_first}
use Rattle.zone_core.proofs.zone.Zone.soa.Goals as goal

pub index-requires : goal.index-requires
index-requires c = let some = some_row c.self.inside.origin c.self.inside.records.items c.self.invariant in search rules

pub returns-clause-one : goal.returns-clause-one
returns-clause-one c = subst (λ (z : ZoneOf). IsSoaOf z c.index.result.now) c.self.view_is (front_is c.self.inside.origin c.self.inside.records.items c.self.invariant c.index.result.now c.index.ensures)

pub returns-clause-value : goal.returns-clause-value
returns-clause-value c =
    let rs = c.self.inside.records.items in
    let one = front_is c.self.inside.origin rs c.self.invariant c.index.result.now c.index.ensures in
    subst (λ (z : ZoneOf). soa_at z.origin z.records ≡ Some c.index.result.now) c.self.view_is (soa_first c.self.inside.origin rs c.self.invariant c.index.result.now one)
