use Rattle.std.proofs.Common.{subst}
use Rattle.sqlite.specs.Held.{state}
use Rattle.office_model.specs.Tables.{addition_in, committed}
use Rattle.store_cache.specs.Cache.{cached_in}
use Rattle.office_store.specs.Turns.{Turns}
use Rattle.office_store.proofs.CacheLemmas.{fits_committed, fits_turned}
use Rattle.office_store.proofs.cache.commit_cached.Goals as goal

pub returns-in-Ok-clause-cache : goal.returns-in-Ok-clause-cache
returns-in-Ok-clause-cache g c =
    let old = state g.S.Store c.args.conn.now in
    let new = state g.S.Store c.commit.new.conn in
    let turns = subst (λ r. Turns old new r (committed (addition_in c.args.addition.now))) c.in-Ok.is c.commit.ensures in
    fits_committed old new c.in-Ok.field-0 (addition_in c.args.addition.now) (cached_in c.args.cache.now) (cached_in c.follow.new.cache) turns c.requires.cache c.follow.ensures

pub returns-in-Err-clause-cache : goal.returns-in-Err-clause-cache
returns-in-Err-clause-cache g c =
    let old = state g.S.Store c.args.conn.now in
    let new = state g.S.Store c.commit.new.conn in
    fits_turned old new c.commit.result (committed (addition_in c.args.addition.now)) (cached_in c.args.cache.now) c.commit.ensures c.requires.cache
