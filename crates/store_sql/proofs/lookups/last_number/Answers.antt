use Rattle.std.proofs.Common.{◌≡◌, true, ◌∙◌, [], ◌∷◌, refl, subst, sym, slice_get, rules}
use Rattle.sqlite_value.specs.declared.value.Value.TheVariants.{Text}
use Rattle.store_sql.specs.Lookups.{IsLast, changes_of}
use Rattle.sqlite.specs.Held.{state}
use Rattle.store_sql.proofs.Queries.{shown_keeps}
use Rattle.store_sql.proofs.Commits.{held_before}
use Rattle.store_sql.proofs.LastNumbers.{selects_last, never_bad_numbers, first_is}
use Rattle.store_sql.proofs.Texts.{last_text}
use Rattle.store_sql.proofs.lookups.last_number.Goals as goal

pub returns-clause-answer : goal.returns-clause-answer
returns-clause-answer g c clean rows holds =
    let begun = state g.S.Store (record c.args.conn.now { in_transaction = true }) in
    let h = rw c.params-to_sql.ensures at (c.in_ok-numbers.ensures.shown clean) in
    let mid = state g.S.Store h.0 in
    let up = (shown_keeps begun mid last_text (Text c.args.origin.now ∷ []) _ refl h.1).1 in
    let it = selects_last begun mid c.args.origin.now c.in_ok-numbers.numbers.items rows h.1 (holds up).0 in
    let first : c.copied.result ≡ slice_get c.in_ok-numbers.numbers.items 0 = search rules in
    subst (IsLast (changes_of c.args.origin.now rows.changes)) (sym (first ∙ first_is c.in_ok-numbers.numbers.items)) it

pub returns-clause-only : goal.returns-clause-only
returns-clause-only g c clean rows = held_before (state g.S.Store c.args.conn.now) (state g.S.Store c.ask.new.conn) rows c.ask.ensures.asks (c.in_ok-numbers.ensures.same clean)

pub returns-in_err-numbers-clause-bad : goal.returns-in_err-numbers-clause-bad
returns-in_err-numbers-clause-bad g c clean is rows holds =
    let told = rw is at c.from_residual.ensures.1 in
    let begun = state g.S.Store (record c.args.conn.now { in_transaction = true }) in
    let b = rw c.params-to_sql.ensures at (c.in_err-numbers.ensures.bad clean (cc)) in
    let mid = state g.S.Store b.1 in
    let up = (shown_keeps begun mid last_text (Text c.args.origin.now ∷ []) b.0 refl b.2).1 in
    let h = (holds up).0 in
    never_bad_numbers begun mid c.args.origin.now b.0 rows b.2 h b.3
