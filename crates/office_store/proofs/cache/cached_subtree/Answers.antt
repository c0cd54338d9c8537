use Rattle.std.proofs.Common.{rules}
use Rattle.sqlite.specs.Held.{state}
use Rattle.store_cache.specs.Cache.{cached_in}
use Rattle.office_store.proofs.CacheLemmas.{fits_asked}
use Rattle.office_store.proofs.QueryLemmas.{asked_then, asks_refused, only_of}
use Rattle.office_store.proofs.cache.cached_subtree.Goals as goal

pub returns-in_err-found-clause-asks : goal.returns-in_err-found-clause-asks
returns-in_err-found-clause-asks g c =
    let old = state g.S.Store c.args.conn.now in
    let mid = state g.S.Store c.cache_wanted.new.conn in
    let new = state g.S.Store c.subtree_by.new.conn in
    asks_refused old new c.from_residual-in_err-found.result (search rules) (asked_then old mid new c.cache_wanted.ensures.asked c.subtree_by.ensures.asks.0)

pub returns-in_err-found-clause-fits : goal.returns-in_err-found-clause-fits
returns-in_err-found-clause-fits g c =
    fits_asked (state g.S.Store c.cache_wanted.new.conn) (state g.S.Store c.subtree_by.new.conn) (cached_in c.cache_wanted.new.cache) c.subtree_by.ensures.asks.0 c.cache_wanted.ensures.fits

pub returns-clause-asks : goal.returns-clause-asks
returns-clause-asks g c =
    let old = state g.S.Store c.args.conn.now in
    let mid = state g.S.Store c.cache_wanted.new.conn in
    let new = state g.S.Store c.subtree_by.new.conn in (
      asked_then old mid new c.cache_wanted.ensures.asked c.subtree_by.ensures.asks.0,
      λ clean.
          let next = c.in_ok-found.ensures.asks.1 clean in
          only_of old new next.up (λ rows h. c.in_ok-cache_wanted.ensures.only (c.subtree_by.ensures.asks.0.honest clean) rows (next.rows rows h)),
    )

pub returns-clause-fits : goal.returns-clause-fits
returns-clause-fits g c =
    fits_asked (state g.S.Store c.cache_wanted.new.conn) (state g.S.Store c.subtree_by.new.conn) (cached_in c.cache_wanted.new.cache) c.subtree_by.ensures.asks.0 c.cache_wanted.ensures.fits
