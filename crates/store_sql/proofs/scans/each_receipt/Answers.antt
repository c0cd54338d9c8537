use Rattle.std.proofs.Common.{map, Result, Ok, Err, OnOk, sym, subst}
use Rattle.sqlite.specs.Effect.{Database, IsDatabase}
use Rattle.sqlite.specs.Held.{state}
use Rattle.sqlite.specs.Listing.{understood}
use Rattle.sqlite.specs.State.{HasCleanDisk}
use Rattle.sqlite.proofs.Callers.{IsPlain}
use Rattle.store_sql.specs.Tables.{layout_in, stored_receipt}
use Rattle.store_sql.specs.Holds.{HasReceipts}
use Rattle.store_sql.specs.declared.rows_fault.RowsFault.{RowsFault}
use Rattle.store_sql.proofs.Commits.{held_before}
use Rattle.store_sql.proofs.TransactionParts.{on_part}
use Rattle.store_sql.proofs.Layouts.{has_tables}
use Rattle.store_sql.proofs.ReceiptKeys.{own_keys}
use Rattle.store_sql.proofs.Selections.{one_stored_receipt}
use Rattle.store_sql.proofs.Texts.{all_receipts_text, all_receipts_plain}
use Rattle.store_sql.proofs.WholeTables.{all_receipts, begins_all_receipts, stored_same}
use Rattle.store_sql.proofs.scans.each_receipt.Goals as goal

-- where the call went through
told : (r : Result (Unit {0}) RowsFault) (C L S T P : Type 0) → (C → OnOk r L) → (C → OnOk r S) → OnOk r T → ((C → L) → (C → S) → T → P) → OnOk r P
told (Ok u) C L S T P live same taken more = more live same taken
told (Err e) C L S T P live same taken more = tt

pub each-requires-clause-plain : goal.each-requires-clause-plain
each-requires-clause-plain g c office = subst (λ s. IsPlain (understood s all_receipts_text)) (sym office.1) (all_receipts_plain office.0)

pub returns-clause-found : goal.returns-clause-found
returns-clause-found g c =
    let old = state g.S.Store c.args.conn.now in
    let new = state g.S.Store c.each.new.conn in
    told c.each.result (HasCleanDisk new) _ _ _ _ c.each.ensures.live c.each.ensures.same c.each.ensures.taken (λ live same taken. (
      taken.0,
      taken.1,
      λ clean.
          let shown = taken.2 clean in
          let has = has_tables old.now (live clean).1 (live clean).0 in
          let stores = all_receipts (layout_in old.now.trees) old new shown.0 (map stored_receipt taken.0) has (live clean).1 shown.1 shown.2 in
          let there = subst (λ (d : Database). HasReceipts d taken.0) (sym (same clean).now_is) (has, stores) in (
            there,
            λ all holds.
                let h = (c.each.ensures.asks.same all holds (same clean).is_open).0 in
                stored_same stored_receipt one_stored_receipt _ all.receipts taken.0 h.tables.receipts there.1,
          ),
    ))

pub returns-clause-keys : goal.returns-clause-keys
returns-clause-keys g c clean =
    let new = state g.S.Store c.each.new.conn in
    told c.each.result (HasCleanDisk new) _ _ _ _ c.each.ensures.live c.each.ensures.same c.each.ensures.taken (λ live same taken rows has.
    own_keys (layout_in new.now.trees) new.now rows has.0 (subst IsDatabase (sym (same clean).now_is) (live clean).1) has.1)

pub returns-clause-only : goal.returns-clause-only
returns-clause-only g c clean =
    on_part c.each.result _ _ (λ shows rows. held_before (state g.S.Store c.args.conn.now) (state g.S.Store c.each.new.conn) rows c.each.ensures.asks shows) (c.each.ensures.same clean)

pub returns-clause-bad : goal.returns-clause-bad
returns-clause-bad g c clean is rows holds each =
    let new = state g.S.Store c.each.new.conn in
    let b = c.each.ensures.bad clean is in
    let h = (c.each.ensures.asks.same rows holds b.0).0 in
    let it = b.1 (layout_in new.now.trees, h.schema) in
    let whole = begins_all_receipts new it.0 rows h b.0 it.1 in
    it.2 one_stored_receipt whole.0 rows.receipts whole.1 each
