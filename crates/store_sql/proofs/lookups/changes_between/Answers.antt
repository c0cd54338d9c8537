use Rattle.std.proofs.Common.{◌&&◌, [], ◌∷◌, map, bytes_eq, refl, true, rules}
use Rattle.std.specs.Int.{w64}
use Rattle.std.specs.Ordering.{is_ge, is_lt, int_cmp}
use Rattle.std.specs.Prelude.{FitsSigned}
use Rattle.std.proofs.lemmas.Int.{to_z-of_z}
use Rattle.sqlite_value.specs.declared.value.Value.TheVariants.{Int, Text}
use Rattle.sqlite.specs.Held.{state}
use Rattle.store_sql.specs.Rows.{ChangeRowOf}
use Rattle.store_sql.specs.Tables.{stored_change}
use Rattle.store_sql.proofs.Queries.{shown_keeps}
use Rattle.store_sql.proofs.Commits.{if_ok_then, held_before}
use Rattle.store_sql.proofs.TransactionParts.{on_part}
use Rattle.store_sql.proofs.Selections.{read_as, one_stored_change, never_bad_rows}
use Rattle.store_sql.proofs.ChangesBetween.{changes_between_text, selects_changes_between}
use Rattle.store_sql.proofs.lookups.changes_between.Goals as goal

pub returns-clause-answer : goal.returns-clause-answer
returns-clause-answer g c clean =
    let first : FitsSigned w64 c.args.from = search rules in
    let last : FitsSigned w64 c.args.to = search rules in
    let begun = state g.S.Store (record c.args.conn.now { in_transaction = true }) in
    if_ok_then c.ask.result _ _ (rw (c.params-to_sql.ensures, c.params-to_sql-2.ensures, c.params-to_sql-3.ensures, to_z-of_z w64 c.args.from first, to_z-of_z w64 c.args.to last) at (c.ask.ensures.shown clean)) (λ xs h rows holds.
    let mid = state g.S.Store h.0 in
    let up = (shown_keeps begun mid changes_between_text (Text c.args.origin.now ∷ Int c.args.from ∷ Int c.args.to ∷ []) (map stored_change xs.items) refl h.1).1 in
    read_as stored_change one_stored_change _ xs.items (selects_changes_between begun mid c.args.origin.now c.args.from c.args.to (map stored_change xs.items) rows h.1 (holds up).0))

pub returns-clause-only : goal.returns-clause-only
returns-clause-only g c clean =
    on_part c.ask.result _ _ (λ shows rows. held_before (state g.S.Store c.args.conn.now) (state g.S.Store c.ask.new.conn) rows c.ask.ensures.asks shows) (c.ask.ensures.same clean)

pub returns-clause-bad : goal.returns-clause-bad
returns-clause-bad g c clean is rows holds =
    let first : FitsSigned w64 c.args.from = search rules in
    let last : FitsSigned w64 c.args.to = search rules in
    let begun = state g.S.Store (record c.args.conn.now { in_transaction = true }) in
    let b = rw (c.params-to_sql.ensures, c.params-to_sql-2.ensures, c.params-to_sql-3.ensures, to_z-of_z w64 c.args.from first, to_z-of_z w64 c.args.to last) at (c.ask.ensures.bad clean is) in
    let mid = state g.S.Store b.1 in
    let up = (shown_keeps begun mid changes_between_text (Text c.args.origin.now ∷ Int c.args.from ∷ Int c.args.to ∷ []) b.0 refl b.2).1 in
    let h = (holds up).0 in
    never_bad_rows stored_change (λ (r : ChangeRowOf). bytes_eq r.origin c.args.origin.now && (is_ge (int_cmp r.number c.args.from) && is_lt (int_cmp r.number c.args.to))) rows.changes b.0
    (selects_changes_between begun mid c.args.origin.now c.args.from c.args.to b.0 rows b.2 h) h.tables.changes.readable b.3
