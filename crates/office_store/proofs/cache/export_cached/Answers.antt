use Rattle.sqlite.specs.Held.{state}
use Rattle.store_cache.specs.Cache.{cached_in}
use Rattle.office_store.proofs.CacheLemmas.{fits_asked, fits_kept, told_of_all}
use Rattle.office_store.proofs.cache.export_cached.Goals as goal

pub returns-in_err-records-clause-fits : goal.returns-in_err-records-clause-fits
returns-in_err-records-clause-fits g c =
    fits_kept (state g.S.Store c.args.conn.now) (cached_in c.args.cache.now) (cached_in c.take_cached.new.cache) c.requires.fits c.take_cached.ensures.kept

pub returns-in_err-check_open-clause-fits : goal.returns-in_err-check_open-clause-fits
returns-in_err-check_open-clause-fits g c =
    let old = state g.S.Store c.args.conn.now in
    let after = cached_in c.take_cached.new.cache in
    fits_asked old (state g.S.Store c.check_open.new.conn) after c.check_open.ensures.asks.0 (fits_kept old (cached_in c.args.cache.now) after c.requires.fits c.take_cached.ensures.kept)

pub returns-in-Some-clause-fits : goal.returns-in-Some-clause-fits
returns-in-Some-clause-fits g c =
    let old = state g.S.Store c.args.conn.now in
    let after = cached_in c.take_cached.new.cache in
    fits_asked old (state g.S.Store c.check_open.new.conn) after c.check_open.ensures.asks.0 (fits_kept old (cached_in c.args.cache.now) after c.requires.fits c.take_cached.ensures.kept)

pub returns-in-Some-clause-answer : goal.returns-in-Some-clause-answer
returns-in-Some-clause-answer g c = λ clean s h.
    told_of_all (state g.S.Store c.args.conn.now) (cached_in c.args.cache.now) c.args.origin.now c.in-Some.records.items c.requires.fits (c.check_open.ensures.asks.0.honest clean) (c.in_ok-check_open.ensures.open clean)
    (rw c.in-Some.is at c.in_ok-records.ensures.found) s h

pub returns-clause-fits : goal.returns-clause-fits
returns-clause-fits g c =
    let old = state g.S.Store c.args.conn.now in
    let after = cached_in c.take_cached.new.cache in
    fits_asked old (state g.S.Store c.export.new.conn) after c.export.ensures.asks.0 (fits_kept old (cached_in c.args.cache.now) after c.requires.fits c.take_cached.ensures.kept)
