use Rattle.std.proofs.Common.{◌≡◌, pos, Ok, Some, option_map, sym, ap, ◌∙◌, subst, IsPermutation}
use Rattle.sqlite.specs.Held.{state}
use Rattle.zone_core.specs.Sets.{listing, part, within}
use Rattle.office_model.specs.States.{zone_held, zone_at}
use Rattle.dns_names.specs.Spelling.{name_text}
use Rattle.store_rows.specs.PartRows.{rows_within}
use Rattle.office_store.proofs.MigratedZoneLemmas.{order_from}
use Rattle.office_store.proofs.QueryLemmas.{asks_refused}
use Rattle.office_store.proofs.reads.subtree_at.Goals as goal

pub returns-in_default-clause-answer : goal.returns-in_default-clause-answer
returns-in_default-clause-answer g c = λ clean s h. sym (ap (λ held. option_map (λ zone. listing (part zone.records (within c.args.top.now))) (option_map (zone_held c.args.origin.now) held)) ((rw c.in_default.is at (c.in_ok-rows.ensures.found clean)) s h))

pub returns-clause-answer : goal.returns-clause-answer
returns-clause-answer g c =
    λ clean s h.
    let o = c.args.origin.now in
    let f = (rw c.in-Some.is at (c.in_ok-rows.ensures.found clean)) s h in
    let zone = zone_held o f.2 in
    let there : zone_at s o ≡ Some zone = ap (option_map (zone_held o)) f.3 in
    let top = c.args.top.now in
    let rows = subst (λ rs. IsPermutation (rows_within (name_text o) top f.0.records) rs) (sym c.deref.ensures.value) f.4 in
    let told : Ok (listing (part zone.records (within top))) ≡ Ok c.in_ok-records.records.items = c.in_ok-records.ensures.held (pos 2) f.0 s o top zone f.1 there rows in
    let same : listing (part zone.records (within top)) ≡ c.in_ok-records.records.items = cc in
    sym (ap (option_map (λ z. listing (part z.records (within top)))) there ∙ ap (λ rs. Some rs) same)

pub returns-clause-order : goal.returns-clause-order
returns-clause-order g c = order_from c.in_ok-records.records.items c.in_ok-records.ensures.found.3

pub returns-in_err-rows-clause-asks : goal.returns-in_err-rows-clause-asks
returns-in_err-rows-clause-asks g c = asks_refused (state g.S.Store c.args.conn.now) (state g.S.Store c.subtree_rows.new.conn) c.from_residual.result c.from_residual.ensures.0 c.subtree_rows.ensures.asks.0

pub returns-in_err-records-clause-asks : goal.returns-in_err-records-clause-asks
returns-in_err-records-clause-asks g c = asks_refused (state g.S.Store c.args.conn.now) (state g.S.Store c.subtree_rows.new.conn) c.from_residual-in_err-records.result c.from_residual-in_err-records.ensures.0 c.subtree_rows.ensures.asks.0
