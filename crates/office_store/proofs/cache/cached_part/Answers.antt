use Rattle.sqlite.specs.Held.{state}
use Rattle.store_cache.specs.Cache.{cached_in}
use Rattle.office_store.proofs.CacheLemmas.{told_of_part}
use Rattle.office_store.proofs.cache.cached_part.Goals as goal

pub returns-in-Some-clause-answer : goal.returns-in-Some-clause-answer
returns-in-Some-clause-answer g c = λ clean s h.
    told_of_part (state g.S.Store c.args.conn.now) (cached_in c.args.cache.now) c.args.origin.now c.args.names.now c.in-Some.part c.requires.fits (c.check_open.ensures.asks.0.honest clean) (c.in_ok-check_open.ensures.open clean)
    (rw c.in-Some.is at c.in_ok-part.ensures.found) s h
