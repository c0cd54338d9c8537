use Rattle.std.proofs.Common.{◌≡◌, ◌⊎◌, inl, OnOk, OnErr, IsTrue, rules, subst}
use Rattle.std.specs.Int.{w64}
use Rattle.std.proofs.lemmas.Int.{to_z-of_z}
use Rattle.sqlite.specs.Held.{state}
use Rattle.sqlite.specs.State.{HasCleanDisk}
use Rattle.store_sql.specs.Holds.{AreRows, Holds, Leaves, Keeps, made_rows}
use Rattle.store_sql.proofs.Commits.{clean_if_open, on_ok_when, on_err_when, on_err, made_first, durable_first, undone_keeps, left_nothing, failed_end, left_first}
use Rattle.store_sql.proofs.creation.commit.Goals as goal

pub returns-in_err-make_all-clause-failed : goal.returns-in_err-make_all-clause-failed
returns-in_err-make_all-clause-failed g c =
    let old = state g.S.Store c.args.conn.now in
    let mid = state g.S.Store c.make_all.new.tx.conn.now in
    let end = c.drop-tx.new.self.0 in
    let same : end ≡ c.conn-1.given.0 = search rules in
    let begun = c.transaction-tx.ensures.begun in
    let clean_now : IsTrue (state g.S.Store end).is_open → HasCleanDisk (state g.S.Store end) = clean_if_open _ _ (g.met.S.Store.shut_if_dirty end.store) in
    subst (λ h. OnErr c.from_residual.result (Keeps old (state g.S.Store h))) same
    (on_err c.from_residual.result _ (undone_keeps old mid (state g.S.Store end) (rw begun at c.make_all.ensures.stays).kept c.drop-tx.ensures.undone c.drop-tx.ensures.survives.clean clean_now))

pub returns-in_err-make_all-clause-crash : goal.returns-in_err-make_all-clause-crash
returns-in_err-make_all-clause-crash g c =
    let old = state g.S.Store c.args.conn.now in
    let mid = state g.S.Store c.make_all.new.tx.conn.now in
    let end = c.drop-tx.new.self.0 in
    let same : end ≡ c.conn-1.given.0 = search rules in
    let begun = c.transaction-tx.ensures.begun in
    subst (λ h. OnErr c.from_residual.result (Leaves (state g.S.Store h) (λ db. old.may_leave db ⊎ AreRows db (made_rows c.args.version)))) same
    (on_err c.from_residual.result _ (λ clean db may. inl (left_nothing old mid (state g.S.Store end) (rw begun at c.make_all.ensures.stays).survives c.drop-tx.ensures.survives clean db may)))

pub returns-clause-made : goal.returns-clause-made
returns-clause-made g c =
    let old = state g.S.Store c.args.conn.now in
    let mid = state g.S.Store c.make_all.new.tx.conn.now in
    let end = c.commit.new.self.0 in
    let new = state g.S.Store end in
    let same : end ≡ c.conn-2-1.given.0 = search rules in
    let begun = c.transaction-tx.ensures.begun in
    let stays = rw begun at c.make_all.ensures.stays in
    let later = c.commit.ensures.survives.clean in
    let rows = made_rows c.args.version in
    let clean_now : IsTrue new.is_open → HasCleanDisk new = clean_if_open _ _ (g.met.S.Store.shut_if_dirty end.store) in
    let reads = λ (early : HasCleanDisk mid). (rw (begun, to_z-of_z w64 c.args.version c.ranges.version) at (c.in_ok-make_all.ensures.made early)) c.requires.none in
    subst (λ h. OnOk c.commit.result (Holds (state g.S.Store h) rows)) same
    (on_ok_when c.commit.result _ _ _ c.commit.ensures.ok (λ ok. made_first old mid new rows reads (λ clean. (ok clean).1) later clean_now))

pub returns-clause-kept : goal.returns-clause-kept
returns-clause-kept g c =
    let old = state g.S.Store c.args.conn.now in
    let mid = state g.S.Store c.make_all.new.tx.conn.now in
    let end = c.commit.new.self.0 in
    let new = state g.S.Store end in
    let same : end ≡ c.conn-2-1.given.0 = search rules in
    let begun = c.transaction-tx.ensures.begun in
    let stays = rw begun at c.make_all.ensures.stays in
    let later = c.commit.ensures.survives.clean in
    let rows = made_rows c.args.version in
    let clean_now : IsTrue new.is_open → HasCleanDisk new = clean_if_open _ _ (g.met.S.Store.shut_if_dirty end.store) in
    let reads = λ (early : HasCleanDisk mid). (rw (begun, to_z-of_z w64 c.args.version c.ranges.version) at (c.in_ok-make_all.ensures.made early)) c.requires.none in
    subst (λ h. OnOk c.commit.result (Leaves (state g.S.Store h) (λ db. AreRows db rows))) same
    (on_ok_when c.commit.result _ _ _ c.commit.ensures.ok (λ ok. durable_first old mid new rows reads (λ clean. (ok clean).1) later (λ db up may. g.met.S.Store.settled end.store db up may)))

pub returns-clause-failed : goal.returns-clause-failed
returns-clause-failed g c =
    let old = state g.S.Store c.args.conn.now in
    let mid = state g.S.Store c.make_all.new.tx.conn.now in
    let end = c.commit.new.self.0 in
    let new = state g.S.Store end in
    let same : end ≡ c.conn-2-1.given.0 = search rules in
    let begun = c.transaction-tx.ensures.begun in
    let stays = rw begun at c.make_all.ensures.stays in
    let later = c.commit.ensures.survives.clean in
    let rows = made_rows c.args.version in
    let clean_now : IsTrue new.is_open → HasCleanDisk new = clean_if_open _ _ (g.met.S.Store.shut_if_dirty end.store) in
    let reads = λ (early : HasCleanDisk mid). (rw (begun, to_z-of_z w64 c.args.version c.ranges.version) at (c.in_ok-make_all.ensures.made early)) c.requires.none in
    subst (λ h. OnErr c.commit.result (Keeps old (state g.S.Store h))) same
    (on_err_when c.commit.result _ _ _ (λ e fails. undone_keeps old mid new stays.kept (failed_end old mid new e fails c.in_ok-make_all.ensures.going later) later clean_now) c.commit.ensures.err)

pub returns-clause-crash : goal.returns-clause-crash
returns-clause-crash g c =
    let old = state g.S.Store c.args.conn.now in
    let mid = state g.S.Store c.make_all.new.tx.conn.now in
    let end = c.commit.new.self.0 in
    let new = state g.S.Store end in
    let same : end ≡ c.conn-2-1.given.0 = search rules in
    let begun = c.transaction-tx.ensures.begun in
    let stays = rw begun at c.make_all.ensures.stays in
    let later = c.commit.ensures.survives.clean in
    let rows = made_rows c.args.version in
    let clean_now : IsTrue new.is_open → HasCleanDisk new = clean_if_open _ _ (g.met.S.Store.shut_if_dirty end.store) in
    let reads = λ (early : HasCleanDisk mid). (rw (begun, to_z-of_z w64 c.args.version c.ranges.version) at (c.in_ok-make_all.ensures.made early)) c.requires.none in
    subst (λ h. OnErr c.commit.result (Leaves (state g.S.Store h) (λ db. old.may_leave db ⊎ AreRows db rows))) same
    (on_err c.commit.result _ (λ clean db may. left_first old mid new rows reads stays c.commit.ensures.survives clean db may))
