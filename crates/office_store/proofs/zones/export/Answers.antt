use Rattle.std.proofs.Common.{◌≡◌, pos, Ok, Err, Some, [], option_map, sym, ap, ◌∙◌, subst, IsPermutation}
use Rattle.sqlite.specs.Held.{state}
use Rattle.std.proofs.lemmas.Result.{err_from_is_err_and}
use Rattle.zone_core.specs.Sets.{listing, part, within}
use Rattle.office_model.specs.States.{zone_held, zone_at}
use Rattle.dns_names.specs.Spelling.{name_text}
use Rattle.store_sql.specs.Lookups.{records_of}
use Rattle.office_store.specs.Zones.{exported}
use Rattle.office_store.proofs.FaultLemmas.{gives_nothing}
use Rattle.office_store.proofs.ZoneLemmas.{all_within}
use Rattle.office_store.proofs.QueryLemmas.{asks_refused}
use Rattle.office_store.proofs.zones.export.Goals as goal

pub returns-in_err-rows-clause-answer : goal.returns-in_err-rows-clause-answer
returns-in_err-rows-clause-answer g c =
    λ clean s h.
    let p = err_from_is_err_and c.from_residual.result c.from_residual.ensures.1 in
    let is : c.from_residual.result ≡ Err c.in_err-rows.field-0.0 = cc (p.1, p.2) in
    gives_nothing (λ records. records.items) c.in_err-rows.field-0.0 c.from_residual.result _ is c.in_err-rows.ensures.named

pub returns-in_default-clause-answer : goal.returns-in_default-clause-answer
returns-in_default-clause-answer g c = λ clean s h. ap exported ((rw c.in_default.is at (c.in_ok-rows.ensures.found clean)) s h)

pub returns-clause-answer : goal.returns-clause-answer
returns-clause-answer g c =
    λ clean s h.
    let o = c.args.origin.now in
    let f = (rw c.in-Some.is at (c.in_ok-rows.ensures.found clean)) s h in
    let zone = zone_held o f.2 in
    let there : zone_at s o ≡ Some zone = ap (option_map (zone_held o)) f.3 in
    let rows = subst (λ rs. IsPermutation (records_of (name_text o) f.0.records) rs) (sym c.deref.ensures.value) f.4 in
    let told : Ok (listing (part zone.records (within []))) ≡ Ok c.in_ok-records.records.items = c.in_ok-records.ensures.held (pos 2) f.0 s o [] zone f.1 there rows in
    let same : listing (part zone.records (within [])) ≡ c.in_ok-records.records.items = cc in
    ap exported f.3 ∙ ap (λ r. Ok (listing r)) (sym (all_within f.2.records)) ∙ ap (λ rs. Ok rs) same

pub returns-in_err-rows-clause-asks : goal.returns-in_err-rows-clause-asks
returns-in_err-rows-clause-asks g c = asks_refused (state g.S.Store c.args.conn.now) (state g.S.Store c.zone_rows.new.conn) c.from_residual.result c.from_residual.ensures.0 c.zone_rows.ensures.asks.0

pub returns-in_err-records-clause-asks : goal.returns-in_err-records-clause-asks
returns-in_err-records-clause-asks g c = asks_refused (state g.S.Store c.args.conn.now) (state g.S.Store c.zone_rows.new.conn) c.from_residual-in_err-records.result c.from_residual-in_err-records.ensures.0 c.zone_rows.ensures.asks.0
