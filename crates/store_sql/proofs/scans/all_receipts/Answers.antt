use Rattle.std.proofs.Common.{map, sym, subst}
use Rattle.sqlite.specs.Effect.{Database}
use Rattle.sqlite.specs.Held.{state}
use Rattle.sqlite.specs.Listing.{understood}
use Rattle.sqlite.proofs.Callers.{IsPlain}
use Rattle.store_sql.specs.Tables.{layout_in, stored_receipt}
use Rattle.store_sql.specs.Holds.{HasReceipts}
use Rattle.store_sql.proofs.Commits.{if_ok_all, if_ok_with, held_before}
use Rattle.store_sql.proofs.TransactionParts.{on_part}
use Rattle.store_sql.proofs.Layouts.{has_tables}
use Rattle.store_sql.proofs.Selections.{one_stored_receipt}
use Rattle.store_sql.proofs.Texts.{all_receipts_text, all_receipts_plain}
use Rattle.store_sql.proofs.WholeTables.{all_receipts, begins_all_receipts, stored_same}
use Rattle.store_sql.proofs.scans.all_receipts.Goals as goal

pub all-requires-clause-plain : goal.all-requires-clause-plain
all-requires-clause-plain g c office = subst (λ s. IsPlain (understood s all_receipts_text)) (sym office.1) (all_receipts_plain office.0)

pub returns-clause-found : goal.returns-clause-found
returns-clause-found g c clean =
    if_ok_all c.all.result _ _ _ _ (c.all.ensures.live clean) (c.all.ensures.same clean) (c.all.ensures.shown clean) (λ xs live same shown.
    let old = state g.S.Store c.args.conn.now in
    let rows = map g.Q.RowReader.row_of xs.items in
    let has = has_tables old.now live.1 live.0 in
    let stores = all_receipts (layout_in old.now.trees) old (state g.S.Store c.all.new.conn) shown.0 (map stored_receipt rows) has live.1 shown.1 shown.2 in
    subst (λ (d : Database). HasReceipts d rows) (sym same.now_is) (has, stores))

pub returns-clause-answer : goal.returns-clause-answer
returns-clause-answer g c clean =
    if_ok_with c.all.result _ _ _ (c.all.ensures.same clean) (returns-clause-found g c clean) (λ xs shows has rows holds.
    let h = (c.all.ensures.asks.same rows holds shows.is_open).0 in
    stored_same stored_receipt one_stored_receipt _ rows.receipts (map g.Q.RowReader.row_of xs.items) h.tables.receipts has.1)

pub returns-clause-only : goal.returns-clause-only
returns-clause-only g c clean =
    on_part c.all.result _ _ (λ shows rows. held_before (state g.S.Store c.args.conn.now) (state g.S.Store c.all.new.conn) rows c.all.ensures.asks shows) (c.all.ensures.same clean)

pub returns-clause-bad : goal.returns-clause-bad
returns-clause-bad g c clean is rows holds each =
    let new = state g.S.Store c.all.new.conn in
    let b = c.all.ensures.bad clean is in
    let h = (c.all.ensures.asks.same rows holds b.0).0 in
    let it = b.1 (layout_in new.now.trees, h.schema) in
    let whole = begins_all_receipts new it.0 rows h b.0 it.1 in
    it.2 one_stored_receipt whole.0 rows.receipts whole.1 each
