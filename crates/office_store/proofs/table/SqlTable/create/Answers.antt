use Rattle.sqlite.specs.Held.{state}
use Rattle.store_rows.specs.Batches.{nothing_held}
use Rattle.office_store.proofs.CacheLemmas.{fits_held}
use Rattle.office_store.proofs.HistoryLemmas.{history_none}
use Rattle.office_store.proofs.table.SqlTable.create.Goals as goal

pub over-requires-clause-fits : goal.over-requires-clause-fits
over-requires-clause-fits g c = fits_held (state g.S.Store c.make.new.conn) (λ clean. (nothing_held, c.in-Ok.ensures.made))

pub over-requires-clause-remembers : goal.over-requires-clause-remembers
over-requires-clause-remembers g c = history_none (state g.S.Store c.make.new.conn) _ (fits_held (state g.S.Store c.make.new.conn) (λ clean. (nothing_held, c.in-Ok.ensures.made)))
