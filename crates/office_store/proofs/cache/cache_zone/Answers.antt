use Rattle.sqlite.specs.Held.{state}
use Rattle.store_cache.specs.Cache.{cached_in}
use Rattle.office_store.proofs.CacheLemmas.{fits_asked_none, fits_found}
use Rattle.office_store.proofs.cache.cache_zone.Goals as goal

pub returns-in_err-found-clause-fits : goal.returns-in_err-found-clause-fits
returns-in_err-found-clause-fits g c = fits_asked_none (state g.S.Store c.args.conn.now) (state g.S.Store c.zone_at.new.conn) (cached_in c.args.cache.now) c.zone_at.ensures.asks.0 c.requires.fits

pub returns-clause-fits : goal.returns-clause-fits
returns-clause-fits g c =
    fits_found (state g.S.Store c.args.conn.now) (state g.S.Store c.zone_at.new.conn) (cached_in c.args.cache.now) c.in_ok-found.found (cached_in c.cached_of.result) c.args.origin.now c.requires.fits
    c.zone_at.ensures.asks.0 c.in_ok-found.ensures.origin c.in_ok-found.ensures.answer c.cached_of.ensures
