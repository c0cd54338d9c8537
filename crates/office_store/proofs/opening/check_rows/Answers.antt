use Rattle.sqlite.specs.Held.{state}
use Rattle.office_store.proofs.OpeningLemmas.{holds_state, refuses_none, asks_only}
use Rattle.office_store.proofs.QueryLemmas.{keeps_once}
use Rattle.office_store.proofs.opening.check_rows.Goals as goal

pub returns-clause-found : goal.returns-clause-found
returns-clause-found g c = holds_state (state g.S.Store c.args.conn.now) (state g.S.Store c.check_each.new.conn) c.check_each.result c.check_each.ensures

pub returns-clause-good : goal.returns-clause-good
returns-clause-good g c = refuses_none (state g.S.Store c.args.conn.now) (state g.S.Store c.check_each.new.conn) c.check_each.result c.check_each.ensures

pub returns-clause-named : goal.returns-clause-named
returns-clause-named g c = c.check_each.ensures.named

pub returns-clause-asks : goal.returns-clause-asks
returns-clause-asks g c = asks_only (state g.S.Store c.args.conn.now) (state g.S.Store c.check_each.new.conn) c.check_each.result c.check_each.ensures

pub returns-clause-shown : goal.returns-clause-shown
returns-clause-shown g c = keeps_once (state g.S.Store c.args.conn.now) (state g.S.Store c.check_each.new.conn) c.check_each.ensures.asks

pub returns-clause-ended : goal.returns-clause-ended
returns-clause-ended g c = c.check_each.ensures.asks.ended
