use Rattle.std.proofs.Common.{◌&&◌, [], ◌∷◌, map, bytes_eq, refl, true}
use Rattle.sqlite_value.specs.declared.value.Value.TheVariants.{Text}
use Rattle.sqlite.specs.Held.{state}
use Rattle.store_sql.specs.Rows.{ReceiptRowOf}
use Rattle.store_sql.specs.Tables.{stored_receipt}
use Rattle.store_sql.proofs.Queries.{shown_keeps}
use Rattle.store_sql.proofs.Commits.{if_ok_then, held_before}
use Rattle.store_sql.proofs.TransactionParts.{on_part}
use Rattle.store_sql.proofs.Selections.{selects_receipts_of, read_as, one_stored_receipt, never_bad_rows}
use Rattle.store_sql.proofs.Texts.{receipts_of_text}
use Rattle.store_sql.proofs.lookups.receipts_of.Goals as goal

pub returns-clause-answer : goal.returns-clause-answer
returns-clause-answer g c clean =
    let begun = state g.S.Store (record c.args.conn.now { in_transaction = true }) in
    if_ok_then c.ask.result _ _ (rw (c.params-to_sql.ensures, c.params-to_sql-2.ensures) at (c.ask.ensures.shown clean)) (λ xs h rows holds.
    let mid = state g.S.Store h.0 in
    let up = (shown_keeps begun mid receipts_of_text (Text c.args.caller.now ∷ Text c.args.id.now ∷ []) (map stored_receipt xs.items) refl h.1).1 in
    read_as stored_receipt one_stored_receipt _ xs.items (selects_receipts_of begun mid c.args.caller.now c.args.id.now (map stored_receipt xs.items) rows h.1 (holds up).0))

pub returns-clause-only : goal.returns-clause-only
returns-clause-only g c clean =
    on_part c.ask.result _ _ (λ shows rows. held_before (state g.S.Store c.args.conn.now) (state g.S.Store c.ask.new.conn) rows c.ask.ensures.asks shows) (c.ask.ensures.same clean)

pub returns-clause-bad : goal.returns-clause-bad
returns-clause-bad g c clean is rows holds =
    let begun = state g.S.Store (record c.args.conn.now { in_transaction = true }) in
    let b = rw (c.params-to_sql.ensures, c.params-to_sql-2.ensures) at (c.ask.ensures.bad clean is) in
    let mid = state g.S.Store b.1 in
    let up = (shown_keeps begun mid receipts_of_text (Text c.args.caller.now ∷ Text c.args.id.now ∷ []) b.0 refl b.2).1 in
    let h = (holds up).0 in
    never_bad_rows stored_receipt (λ (r : ReceiptRowOf). bytes_eq r.caller c.args.caller.now && bytes_eq r.id c.args.id.now) rows.receipts b.0 (selects_receipts_of begun mid c.args.caller.now c.args.id.now b.0 rows b.2 h) h.tables.receipts.readable b.3
