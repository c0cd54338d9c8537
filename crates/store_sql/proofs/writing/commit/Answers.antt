use Rattle.std.proofs.Common.{◌≡◌, ◌⊎◌, inl, OnOk, OnErr, IsTrue, rules, subst, arith, refl}
use Rattle.sqlite.specs.Held.{state}
use Rattle.sqlite.specs.State.{HasCleanDisk}
use Rattle.store_sql.specs.Rows.{RowsOf}
use Rattle.store_sql.specs.Holds.{AreRows, Holds, Leaves, IsGoing, Keeps}
use Rattle.store_sql.proofs.Commits.{clean_if_open, on_ok_when, on_err_when, on_err, made, durable, undone_keeps, left_nothing, failed_end, left_either}
use Rattle.store_sql.proofs.writing.commit.Goals as goal

pub returns-in_err-write_all-clause-failed : goal.returns-in_err-write_all-clause-failed
returns-in_err-write_all-clause-failed g c =
    let old = state g.S.Store c.args.conn.now in
    let mid = state g.S.Store c.write_all.new.tx.conn.now in
    let end = c.drop-tx.new.self.0 in
    let same : end ≡ c.conn-1.given.0 = search rules in
    let begun = c.transaction-tx.ensures.begun in
    let clean_now : IsTrue (state g.S.Store end).is_open → HasCleanDisk (state g.S.Store end) = clean_if_open _ _ (g.met.S.Store.shut_if_dirty end.store) in
    subst (λ h. OnErr c.from_residual.result (Keeps old (state g.S.Store h))) same
    (on_err c.from_residual.result _ (undone_keeps old mid (state g.S.Store end) (rw begun at c.write_all.ensures.stays).kept c.drop-tx.ensures.undone c.drop-tx.ensures.survives.clean clean_now))

pub returns-in_err-write_all-clause-crash : goal.returns-in_err-write_all-clause-crash
returns-in_err-write_all-clause-crash g c =
    let old = state g.S.Store c.args.conn.now in
    let mid = state g.S.Store c.write_all.new.tx.conn.now in
    let end = c.drop-tx.new.self.0 in
    let same : end ≡ c.conn-1.given.0 = search rules in
    let begun = c.transaction-tx.ensures.begun in
    let f = g.W.Writing.after c.args.writing.now in
    subst (λ h. OnErr c.from_residual.result ((rows : RowsOf) → Holds old rows → Leaves (state g.S.Store h) (λ db. old.may_leave db ⊎ AreRows db (f rows)))) same
    (on_err c.from_residual.result _ (λ rows _ clean db may. inl (left_nothing old mid (state g.S.Store end) (rw begun at c.write_all.ensures.stays).survives c.drop-tx.ensures.survives clean db may)))

pub returns-clause-made : goal.returns-clause-made
returns-clause-made g c =
    let old = state g.S.Store c.args.conn.now in
    let mid = state g.S.Store c.write_all.new.tx.conn.now in
    let end = c.commit.new.self.0 in
    let new = state g.S.Store end in
    let same : end ≡ c.conn-2-1.given.0 = search rules in
    let f = g.W.Writing.after c.args.writing.now in
    let part = rw c.transaction-tx.ensures.begun at c.in_ok-write_all.ensures.part in
    let later = c.commit.ensures.survives.clean in
    let clean_now : IsTrue new.is_open → HasCleanDisk new = clean_if_open _ _ (g.met.S.Store.shut_if_dirty end.store) in
    subst (λ h. OnOk c.commit.result ((rows : RowsOf) → Holds old rows → Holds (state g.S.Store h) (f rows))) same
    (on_ok_when c.commit.result _ _ _ c.commit.ensures.ok (λ ok rows. made old mid new rows f part (λ clean. (ok clean).1) later clean_now))

pub returns-clause-kept : goal.returns-clause-kept
returns-clause-kept g c =
    let old = state g.S.Store c.args.conn.now in
    let mid = state g.S.Store c.write_all.new.tx.conn.now in
    let end = c.commit.new.self.0 in
    let new = state g.S.Store end in
    let same : end ≡ c.conn-2-1.given.0 = search rules in
    let f = g.W.Writing.after c.args.writing.now in
    let part = rw c.transaction-tx.ensures.begun at c.in_ok-write_all.ensures.part in
    let later = c.commit.ensures.survives.clean in
    subst (λ h. OnOk c.commit.result ((rows : RowsOf) → Holds old rows → Leaves (state g.S.Store h) (λ db. AreRows db (f rows)))) same
    (on_ok_when c.commit.result _ _ _ c.commit.ensures.ok (λ ok rows. durable old mid new rows f part (λ clean. (ok clean).1) later (λ db up may. g.met.S.Store.settled end.store db up may)))

pub returns-clause-failed : goal.returns-clause-failed
returns-clause-failed g c =
    let old = state g.S.Store c.args.conn.now in
    let mid = state g.S.Store c.write_all.new.tx.conn.now in
    let end = c.commit.new.self.0 in
    let new = state g.S.Store end in
    let same : end ≡ c.conn-2-1.given.0 = search rules in
    let begun = c.transaction-tx.ensures.begun in
    let stays = rw begun at c.write_all.ensures.stays in
    let later = c.commit.ensures.survives.clean in
    let ready = λ (early : HasCleanDisk mid). let it : HasCleanDisk old = omega (arith, stays.survives.clean) in it in
    let going : HasCleanDisk mid → IsGoing mid = λ early. (rw begun at c.in_ok-write_all.ensures.going) (c.requires.opened (ready early), refl) early in
    let clean_now : IsTrue new.is_open → HasCleanDisk new = clean_if_open _ _ (g.met.S.Store.shut_if_dirty end.store) in
    subst (λ h. OnErr c.commit.result (Keeps old (state g.S.Store h))) same
    (on_err_when c.commit.result _ _ _ (λ e fails. undone_keeps old mid new stays.kept (failed_end old mid new e fails going later) later clean_now) c.commit.ensures.err)

pub returns-clause-crash : goal.returns-clause-crash
returns-clause-crash g c =
    let old = state g.S.Store c.args.conn.now in
    let mid = state g.S.Store c.write_all.new.tx.conn.now in
    let end = c.commit.new.self.0 in
    let new = state g.S.Store end in
    let same : end ≡ c.conn-2-1.given.0 = search rules in
    let begun = c.transaction-tx.ensures.begun in
    let stays = rw begun at c.write_all.ensures.stays in
    let ready = λ (early : HasCleanDisk mid). let it : HasCleanDisk old = omega (arith, stays.survives.clean) in it in
    let going : HasCleanDisk mid → IsGoing mid = λ early. (rw begun at c.in_ok-write_all.ensures.going) (c.requires.opened (ready early), refl) early in
    let f = g.W.Writing.after c.args.writing.now in
    let part = rw begun at c.in_ok-write_all.ensures.part in
    subst (λ h. OnErr c.commit.result ((rows : RowsOf) → Holds old rows → Leaves (state g.S.Store h) (λ db. old.may_leave db ⊎ AreRows db (f rows)))) same
    (on_err c.commit.result _ (λ rows h. left_either old mid new rows f part going c.commit.ensures.survives h))
