use Rattle.std.proofs.Common.{sym, ap, ◌∙◌}
use Rattle.zone_core.proofs.SetLemmas.{name_is}
use Rattle.store_cache.specs.Cache.{cached_in}
use Rattle.store_cache.proofs.cached_zone.cached_at.Goals as goal

pub returns-in-Some-clause-found : goal.returns-in-Some-clause-found
returns-in-Some-clause-found c = (ap cached_in c.in-Some.is, name_is c.in-Some.cached.origin c.args.origin.now (sym c.eq.ensures ∙ c.if-eq.true))
