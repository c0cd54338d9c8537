use Rattle.std.proofs.Common.{◌≡◌, List, length, map, take, drop, option_map, rules, sym, ap, subst, ◌∙◌}
use Rattle.zone_core.specs.declared.change.Change.{Change}
use Rattle.zone_core.specs.Changes.{change_in}
use Rattle.sqlite.specs.Held.{state}
use Rattle.office_store.proofs.HistoryLemmas.{history_read}
use Rattle.office_store.proofs.ShelfLemmas.{fit_asked, remember_asked, kept}
use Rattle.office_store.proofs.QueryLemmas.{settled_of}
use Rattle.office_store.proofs.table.SqlTableZoneTable.changes_behind.Goals as goal

pub invariant_of-self : goal.invariant_of-self
invariant_of-self g c = search (rules, kept)

pub invariant_of-self-in-Err-1 : goal.invariant_of-self-in-Err-1
invariant_of-self-in-Err-1 g c = search (rules, kept)

pub invariant_of-self-in-Ok-Some-clause-fits : goal.invariant_of-self-in-Ok-Some-clause-fits
invariant_of-self-in-Ok-Some-clause-fits g c = search (rules, kept)

pub invariant_of-self-in-Ok-Some-clause-remembers : goal.invariant_of-self-in-Ok-Some-clause-remembers
invariant_of-self-in-Ok-Some-clause-remembers g c =
    history_read _ _ c.turn_history.new.self.history c.remember.new.history c.args.origin.now c.args.count c.args.most c.in-Ok-Some.changes.items c.changes_behind.ensures.asks.0 c.turn_history.new.self.remembers
    (λ clean s holds. sym (ap (option_map (λ cs. map change_in cs.items)) c.in-Ok-Some.field-0-is) ∙ c.in-Ok-Some.ensures.answer clean s holds)
    (λ s held at read are. c.remember.ensures s held at (subst (λ (l : List Change). map change_in l ≡ take (length l) (drop c.args.count held.changes)) (sym c.deref.ensures.value) read) are)

pub invariant_of-self-in-Ok-Some-clause-fit : goal.invariant_of-self-in-Ok-Some-clause-fit
invariant_of-self-in-Ok-Some-clause-fit g c = fit_asked _ _ _ c.changes_behind.ensures.asks.0 c.turn_history.new.self.fit

pub invariant_of-self-in-Ok-Some-clause-remember : goal.invariant_of-self-in-Ok-Some-clause-remember
invariant_of-self-in-Ok-Some-clause-remember g c = remember_asked _ _ _ c.changes_behind.ensures.asks.0 c.turn_history.new.self.remember

pub returns-in-Ok-None-clause-settled : goal.returns-in-Ok-None-clause-settled
returns-in-Ok-None-clause-settled g c = λ clean s h. settled_of (state g.S.Store c.changes_behind.new.conn) s (c.in-Ok-None.ensures.asks.1 clean).up (λ db up may. g.met.S.Store.settled c.changes_behind.new.conn.store db up may) h

pub returns-in-Ok-Some-clause-settled : goal.returns-in-Ok-Some-clause-settled
returns-in-Ok-Some-clause-settled g c = λ clean s h. settled_of (state g.S.Store c.changes_behind.new.conn) s (c.in-Ok-Some.ensures.asks.1 clean).up (λ db up may. g.met.S.Store.settled c.changes_behind.new.conn.store db up may) h
