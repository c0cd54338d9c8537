use Rattle.std.proofs.Common.{◌≡◌, pos, Ok, Some, option_map, sym, ap, ◌∙◌, subst, ◌∷◌, map}
use Rattle.sqlite.specs.Held.{state}
use Rattle.zone_core.specs.Parts.{part_of, at_names}
use Rattle.office_model.specs.States.{zone_held, zone_at}
use Rattle.dns_names.specs.Keys.{key_of}
use Rattle.dns_names.specs.Spelling.{name_text}
use Rattle.store_rows.specs.PartRows.{AreRowsAt}
use Rattle.office_store.proofs.QueryLemmas.{asks_refused}
use Rattle.office_store.proofs.reads.part_at.Goals as goal

pub returns-in_default-clause-answer : goal.returns-in_default-clause-answer
returns-in_default-clause-answer g c = λ clean s h. sym (ap (λ held. option_map (λ zone. part_of zone (at_names c.args.origin.now c.args.names.now)) (option_map (zone_held c.args.origin.now) held)) ((rw c.in_default.is at (c.in_ok-rows.ensures.found clean)) s h))

pub returns-clause-answer : goal.returns-clause-answer
returns-clause-answer g c =
    λ clean s h.
    let o = c.args.origin.now in
    let f = (rw c.in-Some.is at (c.in_ok-rows.ensures.found clean)) s h in
    let zone = zone_held o f.2 in
    let there : zone_at s o ≡ Some zone = ap (option_map (zone_held o)) f.3 in
    let names = c.args.names.now in
    let rows = subst (λ rs. AreRowsAt (name_text o) (map key_of (o ∷ names)) f.0.records rs) (sym c.deref.ensures.value) f.4 in
    let told : Ok (part_of zone (at_names o names)) ≡ Ok c.in_ok-part.part = c.in_ok-part.ensures.held (pos 2) f.0 s zone names f.1 there rows in
    let same : part_of zone (at_names o names) ≡ c.in_ok-part.part = cc in
    sym (ap (option_map (λ z. part_of z (at_names o names))) there ∙ ap (λ z. Some z) same)

pub returns-in_err-rows-clause-asks : goal.returns-in_err-rows-clause-asks
returns-in_err-rows-clause-asks g c = asks_refused (state g.S.Store c.args.conn.now) (state g.S.Store c.part_rows.new.conn) c.from_residual.result c.from_residual.ensures.0 c.part_rows.ensures.asks.0

pub returns-in_err-part-clause-asks : goal.returns-in_err-part-clause-asks
returns-in_err-part-clause-asks g c = asks_refused (state g.S.Store c.args.conn.now) (state g.S.Store c.part_rows.new.conn) c.from_residual-in_err-part.result c.from_residual-in_err-part.ensures.0 c.part_rows.ensures.asks.0
