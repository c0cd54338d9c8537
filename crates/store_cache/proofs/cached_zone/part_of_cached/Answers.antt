use Rattle.std.proofs.Common.{refl}
use Rattle.store_cache.specs.Cache.{cached_in, current_zone}
use Rattle.store_cache.proofs.CacheLemmas.{none_found, none_told, part_told}
use Rattle.store_cache.proofs.cached_zone.part_of_cached.Goals as goal

pub returns-in-Some-clause-found : goal.returns-in-Some-clause-found
returns-in-Some-clause-found c = part_told (cached_in c.args.cache.now) (current_zone c.in-Some.cached.now) c.args.origin.now c.args.names.now c.in-Some.ensures.found.0 c.in-Some.ensures.found.1 c.part.result c.part.ensures

pub returns-in-Some-clause-none : goal.returns-in-Some-clause-none
returns-in-Some-clause-none c = none_told (cached_in c.args.cache.now) (current_zone c.in-Some.cached.now) c.args.origin.now c.args.names.now c.in-Some.ensures.found.0 c.in-Some.ensures.found.1 c.part.result c.part.ensures

pub returns-in-None-clause-none : goal.returns-in-None-clause-none
returns-in-None-clause-none c = λ none zone there own is. none_found (cached_in c.args.cache.now) zone c.args.origin.now (c.in-None.ensures.none refl) there own
