use Rattle.sqlite.specs.Held.{state}
use Rattle.office_store.proofs.HistoryLemmas.{history_asked, told_of_passed}
use Rattle.office_store.proofs.CacheLemmas.{fits_asked}
use Rattle.office_store.proofs.ShelfLemmas.{fit_asked, history_turned_on, remember_asked}
use Rattle.office_store.proofs.table.SqlTableZoneTable.pass.Goals as goal

pub invariant_of-self-2 : goal.invariant_of-self-2
invariant_of-self-2 g c =
    let conn = state g.S.Store c.args.self.now.conn in
    let turned = history_turned_on conn _ c.args.self.now.history c.args.self.now.histories c.turn_on.new.hand c.turn_on.new.shelf c.args.self.now.remembers c.args.self.now.remember c.turn_on.ensures.turned c.turn_on.ensures.same in
    let asked = c.check_open.ensures.asks.0 in
    record {
      counts = c.args.self.now.counts;
      fits = fits_asked _ _ _ asked c.args.self.now.fits;
      fit = fit_asked _ _ _ asked c.args.self.now.fit;
      remembers = history_asked _ _ _ asked turned.0;
      remember = remember_asked _ _ _ asked turned.1;
    }

pub invariant_of-self : goal.invariant_of-self
invariant_of-self g c =
    let conn = state g.S.Store c.args.self.now.conn in
    let turned = history_turned_on conn _ c.args.self.now.history c.args.self.now.histories c.turn_on.new.hand c.turn_on.new.shelf c.args.self.now.remembers c.args.self.now.remember c.turn_on.ensures.turned c.turn_on.ensures.same in
    record { counts = c.args.self.now.counts; fits = c.args.self.now.fits; fit = c.args.self.now.fit; remembers = turned.0; remember = turned.1 }

pub returns-in-Ok-clause-passed : goal.returns-in-Ok-clause-passed
returns-in-Ok-clause-passed g c = λ clean s held holds at.
    let conn = state g.S.Store c.args.self.now.conn in
    let turned = history_turned_on conn _ c.args.self.now.history c.args.self.now.histories c.turn_on.new.hand c.turn_on.new.shelf c.args.self.now.remembers c.args.self.now.remember c.turn_on.ensures.turned c.turn_on.ensures.same in
    told_of_passed _ _ c.args.origin.now c.args.grants.now c.args.count c.args.most c.passed_in-passed.result turned.0 (c.check_open.ensures.asks.0.honest clean) (c.in-Ok.ensures.open clean)
    c.passed_in-passed.ensures.passed s held holds at
