use Rattle.std.proofs.Common.{◌≡◌, IsTrue, rules, subst, arith, refl, true}
use Rattle.sqlite.specs.Values.{bound}
use Rattle.sqlite.specs.Held.{state}
use Rattle.sqlite.specs.State.{HasCleanDisk}
use Rattle.store_sql.specs.Holds.{Keeps, Stays}
use Rattle.store_sql.proofs.Queries.{query_keeps, rolled_keeps}
use Rattle.store_sql.proofs.Commits.{clean_if_open, undone_keeps, if_ok_then}
use Rattle.store_sql.proofs.TransactionParts.{stays_begun, stays_then}
use Rattle.store_sql.proofs.query.fetch.Goals as goal

pub returns-clause-stays : goal.returns-clause-stays
returns-clause-stays g c =
    let old = state g.S.Store c.args.conn.now in
    let mid = state g.S.Store c.query_all.new.self.conn.now in
    let end = c.drop-tx.new.self.0 in
    let same : end ≡ c.conn-1.given.0 = search rules in
    let begun = c.transaction-tx.ensures.begun in
    subst (λ h. Stays old (state g.S.Store h)) same
    (stays_begun old (state g.S.Store end) (stays_then (record old { in_transaction = true }) mid (state g.S.Store end)
    (record {
      survives = rw begun at c.query_all.ensures.survives;
      kept = λ early. query_keeps (record old { in_transaction = true }) mid (λ rows. rows.items) c.args.sql.now (bound c.args.params.now) c.query_all.result refl
          (rw begun at (c.query_all.ensures.ok early)) (rw begun at (c.query_all.ensures.err early));
    })
    (record { survives = c.drop-tx.ensures.survives; kept = λ clean. rolled_keeps mid (state g.S.Store end) (c.drop-tx.ensures.undone clean) })))

pub returns-clause-back : goal.returns-clause-back
returns-clause-back g c =
    let old = state g.S.Store c.args.conn.now in
    let mid = state g.S.Store c.query_all.new.self.conn.now in
    let end = c.drop-tx.new.self.0 in
    let same : end ≡ c.conn-1.given.0 = search rules in
    let begun = c.transaction-tx.ensures.begun in
    let clean_now : IsTrue (state g.S.Store end).is_open → HasCleanDisk (state g.S.Store end) = clean_if_open _ _ (g.met.S.Store.shut_if_dirty end.store) in
    subst (λ h. Keeps old (state g.S.Store h)) same
    (undone_keeps old mid (state g.S.Store end)
    (λ early. query_keeps (record old { in_transaction = true }) mid (λ rows. rows.items) c.args.sql.now (bound c.args.params.now) c.query_all.result refl
    (rw begun at (c.query_all.ensures.ok early)) (rw begun at (c.query_all.ensures.err early)))
    c.drop-tx.ensures.undone c.drop-tx.ensures.survives.clean clean_now)

pub returns-clause-shown : goal.returns-clause-shown
returns-clause-shown g c clean =
    let end = c.drop-tx.new.self.0 in
    let same : end ≡ c.conn-1.given.0 = search rules in
    let late : HasCleanDisk (state g.S.Store end) = rw same clean in
    let mid = c.query_all.new.self.conn.now in
    let begun = c.transaction-tx.ensures.begun in
    if_ok_then c.query_all.result _ _ (rw begun at (c.query_all.ensures.ok (omega (arith, c.drop-tx.ensures.survives.clean)))) (λ rows h. (mid, h))
