use Rattle.std.proofs.Common.{◌∙◌}
use Rattle.store_cache.specs.Cache.{cached_in}
use Rattle.store_cache.proofs.CacheLemmas.{is_found}
use Rattle.store_cache.proofs.cached_zone.is_cached.Goals as goal

pub returns : goal.returns
returns c = c.is_some.ensures ∙ is_found c.cached_at.result (cached_in c.args.cache.now) c.args.origin.now c.cached_at.ensures.found c.cached_at.ensures.none
