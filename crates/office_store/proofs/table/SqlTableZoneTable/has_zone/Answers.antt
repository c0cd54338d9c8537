use Rattle.std.proofs.Common.{rules}
use Rattle.sqlite.specs.Held.{state}
use Rattle.office_store.proofs.ShelfLemmas.{kept}
use Rattle.office_store.proofs.QueryLemmas.{settled_of}
use Rattle.office_store.proofs.table.SqlTableZoneTable.has_zone.Goals as goal

pub invariant_of-self : goal.invariant_of-self
invariant_of-self g c = search (rules, kept)

pub returns-in-Ok-clause-settled : goal.returns-in-Ok-clause-settled
returns-in-Ok-clause-settled g c = λ clean s h. settled_of (state g.S.Store c.cached_or_held.new.conn) s (c.in-Ok.ensures.asks.1 clean).up (λ db up may. g.met.S.Store.settled c.cached_or_held.new.conn.store db up may) h
