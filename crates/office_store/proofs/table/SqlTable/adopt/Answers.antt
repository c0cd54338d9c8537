use Rattle.sqlite.specs.Held.{state}
use Rattle.store_cache.specs.Cache.{cached_in}
use Rattle.office_store.proofs.CacheLemmas.{fits_read}
use Rattle.office_store.proofs.HistoryLemmas.{history_checked}
use Rattle.office_store.specs.Cache.{IsZoneIn}
use Rattle.office_store.proofs.table.SqlTable.adopt.Goals as goal

pub over-requires-clause-fits : goal.over-requires-clause-fits
over-requires-clause-fits g c = fits_read (state g.S.Store c.check_state.new.conn) (cached_in c.cached_of.result) c.in-Ok.field-0.largest c.cached_of.ensures (λ clean. let it = c.in-Ok.ensures.found clean in (it.0, it.1, it.2, it.3))

pub over-requires-clause-remembers : goal.over-requires-clause-remembers
over-requires-clause-remembers g c = history_checked (state g.S.Store c.check_state.new.conn) c.in-Ok.field-0.history (λ s. IsZoneIn s c.in-Ok.field-0.largest) c.in-Ok.ensures.found

pub returns-in-Err-clause-left : goal.returns-in-Err-clause-left
returns-in-Err-clause-left g c up clean db may = g.met.S.Store.settled c.args.conn.store db up (c.check_state.ensures.asks.0.left clean db may)
