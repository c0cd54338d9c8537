use Rattle.std.proofs.Common.{◌≡◌, pos, Ok, Some, option_map, sym, ap, ◌∙◌, subst, IsPermutation}
use Rattle.sqlite.specs.Held.{state}
use Rattle.office_model.specs.States.{zone_held, zone_at}
use Rattle.dns_names.specs.Spelling.{name_text}
use Rattle.store_sql.specs.Lookups.{records_of}
use Rattle.office_store.proofs.QueryLemmas.{asks_refused}
use Rattle.office_store.proofs.reads.zone_at.Goals as goal

pub returns-in_default-clause-answer : goal.returns-in_default-clause-answer
returns-in_default-clause-answer g c = λ clean s h. sym (ap (option_map (zone_held c.args.origin.now)) ((rw c.in_default.is at (c.in_ok-rows.ensures.found clean)) s h))

pub returns-clause-answer : goal.returns-clause-answer
returns-clause-answer g c =
    λ clean s h.
    let o = c.args.origin.now in
    let f = (rw c.in-Some.is at (c.in_ok-rows.ensures.found clean)) s h in
    let zone = zone_held o f.2 in
    let there : zone_at s o ≡ Some zone = ap (option_map (zone_held o)) f.3 in
    let rows = subst (λ rs. IsPermutation (records_of (name_text o) f.0.records) rs) (sym c.deref.ensures.value) f.4 in
    let told : Ok zone ≡ Ok c.in_ok-zone.zone = c.in_ok-zone.ensures.held (pos 2) f.0 s zone f.1 there rows in
    let same : zone ≡ c.in_ok-zone.zone = cc in
    sym (there ∙ ap (λ z. Some z) same)

pub returns-in_err-rows-clause-asks : goal.returns-in_err-rows-clause-asks
returns-in_err-rows-clause-asks g c = asks_refused (state g.S.Store c.args.conn.now) (state g.S.Store c.zone_rows.new.conn) c.from_residual.result c.from_residual.ensures.0 c.zone_rows.ensures.asks.0

pub returns-in_err-zone-clause-asks : goal.returns-in_err-zone-clause-asks
returns-in_err-zone-clause-asks g c = asks_refused (state g.S.Store c.args.conn.now) (state g.S.Store c.zone_rows.new.conn) c.from_residual-in_err-zone.result c.from_residual-in_err-zone.ensures.0 c.zone_rows.ensures.asks.0
