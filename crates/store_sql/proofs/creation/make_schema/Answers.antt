use Rattle.std.proofs.Common.{arith}
use Rattle.sqlite.specs.Held.{state}
use Rattle.sqlite.specs.State.{HasCleanDisk}
use Rattle.store_sql.proofs.Creations.{creates_all}
use Rattle.store_sql.proofs.TransactionParts.{on_part, stays_then}
use Rattle.store_sql.proofs.creation.make_schema.Goals as goal

pub returns-clause-stays : goal.returns-clause-stays
returns-clause-stays g c =
    stays_then _ _ _ c.run.ensures.stays (stays_then _ _ _ c.run-2.ensures.stays (stays_then _ _ _ c.run-3.ensures.stays (stays_then _ _ _ c.run-4.ensures.stays (stays_then _ _ _ c.run-5.ensures.stays c.run-6.ensures.stays))))

pub returns-clause-made : goal.returns-clause-made
returns-clause-made g c clean =
    let clean_5 : HasCleanDisk (state g.S.Store c.run-5.new.tx.conn.now) = omega (arith, c.run-6.ensures.stays.survives.clean) in
    let clean_4 : HasCleanDisk (state g.S.Store c.run-4.new.tx.conn.now) = omega (arith, c.run-5.ensures.stays.survives.clean) in
    let clean_3 : HasCleanDisk (state g.S.Store c.run-3.new.tx.conn.now) = omega (arith, c.run-4.ensures.stays.survives.clean) in
    let clean_2 : HasCleanDisk (state g.S.Store c.run-2.new.tx.conn.now) = omega (arith, c.run-3.ensures.stays.survives.clean) in
    let clean_1 : HasCleanDisk (state g.S.Store c.run.new.tx.conn.now) = omega (arith, c.run-2.ensures.stays.survives.clean) in
    let one = c.in_ok-run.ensures.ran clean_1 in
    let two = c.in_ok-run-2.ensures.ran clean_2 in
    let three = c.in_ok-run-3.ensures.ran clean_3 in
    let four = c.in_ok-run-4.ensures.ran clean_4 in
    let five = c.in_ok-run-5.ensures.ran clean_5 in
    on_part c.run-6.result _ _
    (λ six none. creates_all (state g.S.Store c.args.tx.now.conn.now) (state g.S.Store c.run.new.tx.conn.now) (state g.S.Store c.run-2.new.tx.conn.now) (state g.S.Store c.run-3.new.tx.conn.now)
    (state g.S.Store c.run-4.new.tx.conn.now) (state g.S.Store c.run-5.new.tx.conn.now) (state g.S.Store c.run-6.new.tx.conn.now) one.0 two.0 three.0 four.0 five.0 six.0 none one.1 two.1 three.1 four.1 five.1 six.1)
    (c.run-6.ensures.ran clean)

pub returns-in_err-run-2-clause-stays : goal.returns-in_err-run-2-clause-stays
returns-in_err-run-2-clause-stays g c = stays_then _ _ _ c.run.ensures.stays c.run-2.ensures.stays

pub returns-in_err-run-3-clause-stays : goal.returns-in_err-run-3-clause-stays
returns-in_err-run-3-clause-stays g c = stays_then _ _ _ (stays_then _ _ _ c.run.ensures.stays c.run-2.ensures.stays) c.run-3.ensures.stays

pub returns-in_err-run-4-clause-stays : goal.returns-in_err-run-4-clause-stays
returns-in_err-run-4-clause-stays g c = stays_then _ _ _ (stays_then _ _ _ (stays_then _ _ _ c.run.ensures.stays c.run-2.ensures.stays) c.run-3.ensures.stays) c.run-4.ensures.stays

pub returns-in_err-run-5-clause-stays : goal.returns-in_err-run-5-clause-stays
returns-in_err-run-5-clause-stays g c = stays_then _ _ _ (stays_then _ _ _ (stays_then _ _ _ (stays_then _ _ _ c.run.ensures.stays c.run-2.ensures.stays) c.run-3.ensures.stays) c.run-4.ensures.stays) c.run-5.ensures.stays
