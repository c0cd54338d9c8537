use Rattle.std.proofs.Common.{true, [], ◌∷◌, refl, sym}
use Rattle.sqlite_value.specs.declared.value.Value.TheVariants.{Text}
use Rattle.sqlite.specs.Held.{state}
use Rattle.store_sql.proofs.Queries.{shown_keeps}
use Rattle.store_sql.proofs.Commits.{held_before}
use Rattle.store_sql.proofs.RowLemmas.{never_bad}
use Rattle.store_sql.proofs.Selections.{selects_zone, is_there}
use Rattle.store_sql.proofs.Texts.{zone_text}
use Rattle.store_sql.proofs.lookups.has_zone.Goals as goal

pub returns-clause-answer : goal.returns-clause-answer
returns-clause-answer g c clean rows holds =
    let begun = state g.S.Store (record c.args.conn.now { in_transaction = true }) in
    let h = rw c.params-to_sql.ensures at (c.in_ok-zones.ensures.shown clean) in
    let mid = state g.S.Store h.0 in
    let up = (shown_keeps begun mid zone_text (Text c.args.origin.now ∷ []) c.in_ok-zones.zones.items refl h.1).1 in
    let it = is_there c.args.origin.now rows.zones c.in_ok-zones.zones.items (selects_zone begun mid c.args.origin.now c.in_ok-zones.zones.items rows h.1 (holds up).0) in
    cc

pub returns-clause-only : goal.returns-clause-only
returns-clause-only g c clean rows = held_before (state g.S.Store c.args.conn.now) (state g.S.Store c.fetch_open.new.conn) rows c.fetch_open.ensures.asks (c.in_ok-zones.ensures.same clean)

pub returns-in_err-zones-clause-bad : goal.returns-in_err-zones-clause-bad
returns-in_err-zones-clause-bad g c clean is rows holds = absurd (let told = rw is at c.from_residual.ensures.1 in never_bad _ (sym told))
