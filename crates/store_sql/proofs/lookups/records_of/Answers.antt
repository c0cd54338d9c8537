use Rattle.std.proofs.Common.{[], ◌∷◌, map, bytes_eq, refl, true}
use Rattle.sqlite_value.specs.declared.value.Value.TheVariants.{Text}
use Rattle.sqlite.specs.Held.{state}
use Rattle.store_sql.specs.Rows.{RecordRowOf}
use Rattle.store_sql.specs.Tables.{stored_record}
use Rattle.store_sql.proofs.Queries.{shown_keeps}
use Rattle.store_sql.proofs.Commits.{if_ok_then, held_before}
use Rattle.store_sql.proofs.TransactionParts.{on_part}
use Rattle.store_sql.proofs.Selections.{selects_records_of, read_as, one_stored_record, never_bad_rows}
use Rattle.store_sql.proofs.Texts.{records_of_text}
use Rattle.store_sql.proofs.lookups.records_of.Goals as goal

pub returns-clause-answer : goal.returns-clause-answer
returns-clause-answer g c clean =
    let begun = state g.S.Store (record c.args.conn.now { in_transaction = true }) in
    if_ok_then c.ask.result _ _ (rw c.params-to_sql.ensures at (c.ask.ensures.shown clean)) (λ xs h rows holds.
    let mid = state g.S.Store h.0 in
    let up = (shown_keeps begun mid records_of_text (Text c.args.origin.now ∷ []) (map stored_record xs.items) refl h.1).1 in
    read_as stored_record one_stored_record _ xs.items (selects_records_of begun mid c.args.origin.now (map stored_record xs.items) rows h.1 (holds up).0))

pub returns-clause-only : goal.returns-clause-only
returns-clause-only g c clean =
    on_part c.ask.result _ _ (λ shows rows. held_before (state g.S.Store c.args.conn.now) (state g.S.Store c.ask.new.conn) rows c.ask.ensures.asks shows) (c.ask.ensures.same clean)

pub returns-clause-bad : goal.returns-clause-bad
returns-clause-bad g c clean is rows holds =
    let begun = state g.S.Store (record c.args.conn.now { in_transaction = true }) in
    let b = rw c.params-to_sql.ensures at (c.ask.ensures.bad clean is) in
    let mid = state g.S.Store b.1 in
    let up = (shown_keeps begun mid records_of_text (Text c.args.origin.now ∷ []) b.0 refl b.2).1 in
    let h = (holds up).0 in
    never_bad_rows stored_record (λ (r : RecordRowOf). bytes_eq r.origin c.args.origin.now) rows.records b.0 (selects_records_of begun mid c.args.origin.now b.0 rows b.2 h) h.tables.records.readable b.3
