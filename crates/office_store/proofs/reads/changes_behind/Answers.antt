use Rattle.std.proofs.Common.{◌≡◌, ◌+◌, List, IsPermutation, pos, Ok, Some, option_map, sym, ap, subst, ◌∙◌, map, drop, take}
use Rattle.store_sql.specs.Lookups.{changes_between}
use Rattle.store_sql.specs.Rows.{ChangeRowOf}
use Rattle.dns_names.specs.Spelling.{name_text}
use Rattle.sqlite.specs.Held.{state}
use Rattle.zone_core.specs.Changes.{change_in}
use Rattle.office_store.proofs.QueryLemmas.{asks_refused}
use Rattle.office_store.proofs.reads.changes_behind.Goals as goal

pub returns-in_default-clause-answer : goal.returns-in_default-clause-answer
returns-in_default-clause-answer g c = λ clean s h. sym (ap (λ held. option_map (λ cs. take c.args.most (drop c.args.count cs)) (option_map (λ held. held.changes) held)) ((rw c.in_default.is at (c.in_ok-rows.ensures.found clean)) s h))

pub returns-clause-answer : goal.returns-clause-answer
returns-clause-answer g c =
    λ clean s h.
    let o = c.args.origin.now in
    let f = (rw c.in-Some.is at (c.in_ok-rows.ensures.found clean)) s h in
    let told : Ok (take c.args.most (drop c.args.count f.2.changes)) ≡ Ok (map change_in c.in_ok-changes.changes.items) = c.in_ok-changes.ensures.held (pos 2) f.0 s o f.2 c.args.most f.1 f.3 (subst (λ (l : List ChangeRowOf). IsPermutation (changes_between (name_text o) (pos (1 + c.args.count)) (pos (1 + c.args.count + c.args.most)) f.0.changes) l) (sym c.deref.ensures.value) f.4) in
    let same : take c.args.most (drop c.args.count f.2.changes) ≡ map change_in c.in_ok-changes.changes.items = cc in
    sym (ap (λ held. option_map (λ cs. take c.args.most (drop c.args.count cs)) (option_map (λ held. held.changes) held)) f.3 ∙ ap (λ cs. Some cs) same)

pub returns-in_err-rows-clause-asks : goal.returns-in_err-rows-clause-asks
returns-in_err-rows-clause-asks g c = asks_refused (state g.S.Store c.args.conn.now) (state g.S.Store c.change_rows_behind.new.conn) c.from_residual.result c.from_residual.ensures.0 c.change_rows_behind.ensures.asks.0

pub returns-in_err-changes-clause-asks : goal.returns-in_err-changes-clause-asks
returns-in_err-changes-clause-asks g c = asks_refused (state g.S.Store c.args.conn.now) (state g.S.Store c.change_rows_behind.new.conn) c.from_residual-in_err-changes.result c.from_residual-in_err-changes.ensures.0 c.change_rows_behind.ensures.asks.0
