use Rattle.std.proofs.Common.{sym, ◌∙◌}
use Rattle.sqlite.specs.Held.{state}
use Rattle.store_cache.specs.Cache.{cached_in}
use Rattle.office_store.proofs.CacheLemmas.{told_of_cached}
use Rattle.office_store.proofs.cache.cached_or_held.Goals as goal

pub returns-then-is_cached-clause-answer : goal.returns-then-is_cached-clause-answer
returns-then-is_cached-clause-answer g c = λ clean s h.
    told_of_cached (state g.S.Store c.args.conn.now) (cached_in c.args.cache.now) c.args.origin.now c.requires.fits (c.check_open.ensures.asks.0.honest clean) (c.in_ok-check_open.ensures.open clean)
    (sym c.is_cached.ensures ∙ c.if-is_cached.true) s h
