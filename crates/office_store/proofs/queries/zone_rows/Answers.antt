use Rattle.std.proofs.Common.{◌≡◌, ◌∙◌, subst, string_bytes, IsPermutation}
use Rattle.sqlite.specs.Held.{state}
use Rattle.store_sql.specs.Lookups.{records_of}
use Rattle.dns_names.specs.Spelling.{name_text}
use Rattle.office_store.proofs.QueryLemmas.{asked_more, asks_refused, found, only_shown, only_then}
use Rattle.office_store.proofs.queries.zone_rows.Goals as goal

pub returns-in_err-rows-clause-asks : goal.returns-in_err-rows-clause-asks
returns-in_err-rows-clause-asks g c =
    asks_refused (state g.S.Store c.args.conn.now) (state g.S.Store c.records_of.new.conn) c.from_residual-in_err-rows.result c.from_residual-in_err-rows.ensures.0
    (asked_more (state g.S.Store c.args.conn.now) (state g.S.Store c.held_text.new.conn) (state g.S.Store c.records_of.new.conn) c.held_text.ensures.asks.0 c.records_of.ensures.asks)

pub returns-clause-asks : goal.returns-clause-asks
returns-clause-asks g c = (
  asked_more (state g.S.Store c.args.conn.now) (state g.S.Store c.held_text.new.conn) (state g.S.Store c.records_of.new.conn) c.held_text.ensures.asks.0 c.records_of.ensures.asks,
  λ clean. only_then (state g.S.Store c.args.conn.now) (state g.S.Store c.held_text.new.conn) (state g.S.Store c.records_of.new.conn) (c.in_ok-text.ensures.asks.1 (c.records_of.ensures.asks.honest clean)) (only_shown (state g.S.Store c.held_text.new.conn) (state g.S.Store c.records_of.new.conn) c.records_of.ensures.asks (c.in_ok-rows.ensures.same clean)),
)

pub returns-clause-found : goal.returns-clause-found
returns-clause-found g c =
    λ clean.
    let text : string_bytes c.in-Some.text ≡ name_text c.args.origin.now = rw c.in-Some.is at c.in_ok-text.ensures.text in
    found (λ all. IsPermutation (records_of (name_text c.args.origin.now) all.records) c.in_ok-rows.rows.items) (state g.S.Store c.args.conn.now) (state g.S.Store c.held_text.new.conn) c.args.origin.now c.held_text.ensures.asks.0
    (rw c.in-Some.is at (c.in_ok-text.ensures.found (c.records_of.ensures.asks.honest clean)))
    (λ all h. subst (λ t. IsPermutation (records_of t all.records) c.in_ok-rows.rows.items) (c.deref.ensures ∙ text) (c.in_ok-rows.ensures.answer clean all h))

pub returns-in_err-text-clause-asks : goal.returns-in_err-text-clause-asks
returns-in_err-text-clause-asks g c = asks_refused (state g.S.Store c.args.conn.now) (state g.S.Store c.held_text.new.conn) c.from_residual.result c.from_residual.ensures.0 c.held_text.ensures.asks.0
