use Rattle.std.proofs.Common.{string_bytes, refl, arith}
use Rattle.sqlite.specs.Held.{state}
use Rattle.sqlite.specs.State.{HasCleanDisk}
use Rattle.store_sql.proofs.TransactionParts.{written_in_turn, on_part, stays_then}
use Rattle.store_sql.proofs.batch.BatchWriting.write_all.Goals as goal

pub returns-clause-part : goal.returns-clause-part
returns-clause-part g c =
    rw (← c.self.view_is)
    (on_part c.set_version.result _ _
    (λ last. written_in_turn string_bytes _ c.self.inside.zones.items refl (state g.S.Store c.args.tx.now.conn.now) (state g.S.Store c.insert_all.new.tx.conn.now) (state g.S.Store c.write_records.new.tx.conn.now)
    (state g.S.Store c.insert_rows.new.tx.conn.now) (state g.S.Store c.insert_all-2.new.tx.conn.now) (state g.S.Store c.set_version.new.tx.conn.now)
    (rw c.deref.ensures.value at c.in_ok-insert_all.ensures.part) (rw (c.deref-2.ensures.value, c.deref-3.ensures.value) at c.in_ok-write_records.ensures.part)
    (rw c.deref-4.ensures.value at c.in_ok-insert_rows.ensures.part) (rw c.deref-5.ensures.value at c.in_ok-insert_all-2.ensures.part) last)
    c.set_version.ensures.part)

pub returns-in_err-write_records-clause-stays : goal.returns-in_err-write_records-clause-stays
returns-in_err-write_records-clause-stays g c = stays_then _ _ _ c.insert_all.ensures.stays c.write_records.ensures.stays

pub returns-in_err-insert_rows-clause-stays : goal.returns-in_err-insert_rows-clause-stays
returns-in_err-insert_rows-clause-stays g c = stays_then _ _ _ (stays_then _ _ _ c.insert_all.ensures.stays c.write_records.ensures.stays) c.insert_rows.ensures.stays

pub returns-in_err-insert_all-2-clause-stays : goal.returns-in_err-insert_all-2-clause-stays
returns-in_err-insert_all-2-clause-stays g c = stays_then _ _ _ (stays_then _ _ _ (stays_then _ _ _ c.insert_all.ensures.stays c.write_records.ensures.stays) c.insert_rows.ensures.stays) c.insert_all-2.ensures.stays

pub returns-clause-stays : goal.returns-clause-stays
returns-clause-stays g c = stays_then _ _ _ (stays_then _ _ _ (stays_then _ _ _ (stays_then _ _ _ c.insert_all.ensures.stays c.write_records.ensures.stays) c.insert_rows.ensures.stays) c.insert_all-2.ensures.stays) c.set_version.ensures.stays

pub returns-clause-going : goal.returns-clause-going
returns-clause-going g c start clean =
    let clean_4 : HasCleanDisk (state g.S.Store c.insert_all-2.new.tx.conn.now) = omega (arith, c.set_version.ensures.stays.survives.clean) in
    let clean_3 : HasCleanDisk (state g.S.Store c.insert_rows.new.tx.conn.now) = omega (arith, c.insert_all-2.ensures.stays.survives.clean) in
    let clean_2 : HasCleanDisk (state g.S.Store c.write_records.new.tx.conn.now) = omega (arith, c.insert_rows.ensures.stays.survives.clean) in
    let clean_1 : HasCleanDisk (state g.S.Store c.insert_all.new.tx.conn.now) = omega (arith, c.write_records.ensures.stays.survives.clean) in
    let written = c.in_ok-write_records.ensures.going (c.in_ok-insert_all.ensures.going start clean_1) clean_2 in
    c.set_version.ensures.going (c.in_ok-insert_all-2.ensures.going (c.in_ok-insert_rows.ensures.going written clean_3) clean_4) clean
