use Rattle.std.proofs.Common.{subst, sym}
use Rattle.sqlite.specs.Held.{state}
use Rattle.office_model.specs.Tables.{addition_in}
use Rattle.store_cache.specs.Shelf.{on_any}
use Rattle.office_store.specs.Cache.{FitEach}
use Rattle.office_store.proofs.HistoryLemmas.{history_committed}
use Rattle.office_store.proofs.ShelfLemmas.{fit_committed, remember_committed}
use Rattle.office_store.proofs.table.SqlTableZoneTable.commit.Goals as goal

pub invariant_of-self : goal.invariant_of-self
invariant_of-self g c =
    let new = state g.S.Store c.commit_cached.new.conn in
    let a = addition_in c.args.addition in
    let turns = c.commit_cached.ensures.turns in
    record {
      counts = c.args.self.now.counts;
      fits = c.commit_cached.ensures.cache;
      fit = subst (FitEach new) (sym c.forget_on.ensures) (fit_committed _ new _ a (on_any c.args.self.now.zones) turns c.args.self.now.fit);
      remembers = history_committed _ new _ a c.args.self.now.history turns c.args.self.now.remembers;
      remember = remember_committed _ new _ a (on_any c.args.self.now.histories) turns c.args.self.now.remember;
    }

pub returns-in-Ok-clause-kept : goal.returns-in-Ok-clause-kept
returns-in-Ok-clause-kept g c = λ clean s h left. c.in-Ok.ensures.turns.kept clean s h

pub returns-clause-crash : goal.returns-clause-crash
returns-clause-crash g c = rw c.fail.ensures.conn c.in-Err.ensures.turns.crash
