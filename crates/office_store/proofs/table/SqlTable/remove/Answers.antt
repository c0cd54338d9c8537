use Rattle.store_cache.specs.Cache.{cached_in}
use Rattle.office_store.proofs.CacheLemmas.{fits_turned}
use Rattle.office_store.proofs.HistoryLemmas.{history_turned}
use Rattle.office_store.proofs.table.SqlTable.remove.Goals as goal

pub returns-in-Err-clause-turns : goal.returns-in-Err-clause-turns
returns-in-Err-clause-turns g c = rw (c.count.ensures.conn, c.count.ensures.fault) c.in-Err.ensures.turns

pub invariant_of-self : goal.invariant_of-self
invariant_of-self g c = record {
  counts = c.args.self.now.counts;
  fits = fits_turned _ _ _ _ (cached_in c.args.self.now.cache) c.remove.ensures.turns c.args.self.now.fits;
  fit = tt;
  remembers = history_turned _ _ _ _ (cached_in c.args.self.now.cache) c.remove.ensures.turns c.args.self.now.fits;
  remember = tt;
}
