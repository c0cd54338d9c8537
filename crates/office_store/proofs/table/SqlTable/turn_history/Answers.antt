use Rattle.sqlite.specs.Held.{state}
use Rattle.store_cache.specs.Shelf.{on_any}
use Rattle.office_store.proofs.ShelfLemmas.{history_turned_to}
use Rattle.office_store.proofs.table.SqlTable.turn_history.Goals as goal

pub invariant_of-self-clause-remembers : goal.invariant_of-self-clause-remembers
invariant_of-self-clause-remembers g c =
    (history_turned_to (state g.S.Store c.args.self.now.conn) _ c.args.self.now.history (on_any c.args.self.now.histories) c.turn_to.new.hand (on_any c.turn_to.new.shelf) c.args.self.now.remembers c.args.self.now.remember c.turn_to.ensures).0

pub invariant_of-self-clause-remember : goal.invariant_of-self-clause-remember
invariant_of-self-clause-remember g c =
    (history_turned_to (state g.S.Store c.args.self.now.conn) _ c.args.self.now.history (on_any c.args.self.now.histories) c.turn_to.new.hand (on_any c.turn_to.new.shelf) c.args.self.now.remembers c.args.self.now.remember c.turn_to.ensures).1
