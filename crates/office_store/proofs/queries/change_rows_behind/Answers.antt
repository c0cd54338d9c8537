use Rattle.std.proofs.Common.{◌≡◌, ◌∙◌, ◌+◌, pos, subst, string_bytes, IsPermutation, rules}
use Rattle.std.specs.Int.{w64}
use Rattle.std.specs.Prelude.{FitsSigned}
use Rattle.std.proofs.lemmas.Int.{to_z-of_z}
use Rattle.sqlite.specs.Held.{state}
use Rattle.store_sql.specs.Lookups.{changes_between}
use Rattle.dns_names.specs.Spelling.{name_text}
use Rattle.office_store.proofs.QueryLemmas.{asked_more, asks_refused, found, only_shown, only_then}
use Rattle.office_store.proofs.queries.change_rows_behind.Goals as goal

pub returns-in_err-rows-clause-asks : goal.returns-in_err-rows-clause-asks
returns-in_err-rows-clause-asks g c =
    asks_refused (state g.S.Store c.args.conn.now) (state g.S.Store c.changes_between.new.conn) c.from_residual-in_err-rows.result c.from_residual-in_err-rows.ensures.0
    (asked_more (state g.S.Store c.args.conn.now) (state g.S.Store c.held_text.new.conn) (state g.S.Store c.changes_between.new.conn) c.held_text.ensures.asks.0 c.changes_between.ensures.asks)

pub returns-clause-asks : goal.returns-clause-asks
returns-clause-asks g c = (
  asked_more (state g.S.Store c.args.conn.now) (state g.S.Store c.held_text.new.conn) (state g.S.Store c.changes_between.new.conn) c.held_text.ensures.asks.0 c.changes_between.ensures.asks,
  λ clean. only_then (state g.S.Store c.args.conn.now) (state g.S.Store c.held_text.new.conn) (state g.S.Store c.changes_between.new.conn) (c.in_ok-text.ensures.asks.1 (c.changes_between.ensures.asks.honest clean)) (only_shown (state g.S.Store c.held_text.new.conn) (state g.S.Store c.changes_between.new.conn) c.changes_between.ensures.asks (c.in_ok-rows.ensures.same clean)),
)

pub returns-clause-found : goal.returns-clause-found
returns-clause-found g c =
    λ clean.
    let text : string_bytes c.in-Some.text ≡ name_text c.args.origin.now = rw c.in-Some.is at c.in_ok-text.ensures.text in
    let first = pos (1 + c.args.count) in
    let last = pos (1 + c.args.count + c.args.most) in
    let from_fits : FitsSigned w64 c.first_behind-from.result = search rules in
    let to_fits : FitsSigned w64 c.first_after-to.result = search rules in
    found (λ all. IsPermutation (changes_between (name_text c.args.origin.now) first last all.changes) c.in_ok-rows.rows.items) (state g.S.Store c.args.conn.now) (state g.S.Store c.held_text.new.conn) c.args.origin.now c.held_text.ensures.asks.0
    (rw c.in-Some.is at (c.in_ok-text.ensures.found (c.changes_between.ensures.asks.honest clean)))
    (λ all h. subst (λ t. IsPermutation (changes_between t first last all.changes) c.in_ok-rows.rows.items) (c.deref.ensures ∙ text) (rw (to_z-of_z w64 c.first_behind-from.result from_fits, c.first_behind-from.ensures, to_z-of_z w64 c.first_after-to.result to_fits, c.first_after-to.ensures) at (c.in_ok-rows.ensures.answer clean all h)))

pub returns-in_err-text-clause-asks : goal.returns-in_err-text-clause-asks
returns-in_err-text-clause-asks g c = asks_refused (state g.S.Store c.args.conn.now) (state g.S.Store c.held_text.new.conn) c.from_residual.result c.from_residual.ensures.0 c.held_text.ensures.asks.0
