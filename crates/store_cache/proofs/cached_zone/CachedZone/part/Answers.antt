use Rattle.std.proofs.Common.{◌≡◌, Some, Ok, ap, subst}
use Rattle.zone_core.specs.Zones.{built}
use Rattle.zone_core.specs.Faults.{Gives, Refuses}
use Rattle.store_cache.specs.Cache.{current_zone}
use Rattle.store_cache.proofs.CacheLemmas.{part_built, part_refused}
use Rattle.store_cache.proofs.cached_zone.CachedZone.part.Goals as goal

pub returns-in-Ok : goal.returns-in-Ok
returns-in-Ok c = λ is.
    let self = c.args.self.now in
    let records = c.in_ok-records.records.items in
    let made = subst (λ r. Gives (λ zone. zone) r (built c.in_ok-origin.origin records)) c.in-Ok.is c.build.ensures.exact in
    ap (λ zone. Some zone) (part_built (current_zone self) c.in-Ok.zone c.args.names.now records c.in_ok-records.ensures (subst (λ o. built o records ≡ Ok c.in-Ok.zone) c.in_ok-origin.ensures made) is)

pub returns-in_default : goal.returns-in_default
returns-in_default c = λ is.
    let self = c.args.self.now in
    let records = c.in_ok-records.records.items in
    let refused = subst (λ o. Refuses c.in-Err.fault (built o records)) c.in_ok-origin.ensures c.in-Err.ensures.exact in
    absurd (part_refused (current_zone self) c.args.names.now records c.in-Err.fault c.in_ok-records.ensures c.in_default.not-NoMemory refused is)
