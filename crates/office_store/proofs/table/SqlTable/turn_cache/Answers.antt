use Rattle.sqlite.specs.Held.{state}
use Rattle.store_cache.specs.Shelf.{on_any}
use Rattle.office_store.proofs.ShelfLemmas.{cache_turned}
use Rattle.office_store.proofs.table.SqlTable.turn_cache.Goals as goal

pub invariant_of-self-clause-fits : goal.invariant_of-self-clause-fits
invariant_of-self-clause-fits g c =
    (cache_turned (state g.S.Store c.args.self.now.conn) _ c.args.self.now.cache (on_any c.args.self.now.zones) c.turn_to.new.hand (on_any c.turn_to.new.shelf) c.args.self.now.fits c.args.self.now.fit c.turn_to.ensures).0

pub invariant_of-self-clause-fit : goal.invariant_of-self-clause-fit
invariant_of-self-clause-fit g c =
    (cache_turned (state g.S.Store c.args.self.now.conn) _ c.args.self.now.cache (on_any c.args.self.now.zones) c.turn_to.new.hand (on_any c.turn_to.new.shelf) c.args.self.now.fits c.args.self.now.fit c.turn_to.ensures).1
