use Rattle.std.proofs.Common.{◌∙◌}
use Rattle.store_cache.proofs.CacheLemmas.{of_zone}
use Rattle.store_cache.proofs.cached_zone.CachedZone.of.Goals as goal

pub returns : goal.returns
returns c =
    of_zone c.args.zone c.in_ok-origin.origin c.in_ok-rows.rows c.into_records.result.items c.origin.ensures.zone (c.in_ok-origin.ensures ∙ c.origin.ensures.value) c.in_ok-rows.ensures c.into_records.ensures.value
