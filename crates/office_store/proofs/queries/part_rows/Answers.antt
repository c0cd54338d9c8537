use Rattle.std.proofs.Common.{◌∷◌, map}
use Rattle.std.proofs.lemmas.Result.{on_ok_weaker}
use Rattle.sqlite.specs.Held.{state}
use Rattle.dns_names.specs.Keys.{key_of}
use Rattle.dns_names.specs.Spelling.{name_text}
use Rattle.store_rows.specs.PartRows.{AreRowsAt}
use Rattle.office_store.proofs.QueryLemmas.{asked_once, on_found, only_shown, refused_early, stands}
use Rattle.office_store.proofs.queries.part_rows.Goals as goal

pub returns-clause-found : goal.returns-clause-found
returns-clause-found g c =
    λ clean. on_found c.rows_at.result _ _ (λ found tells. stands (λ all rows. AreRowsAt (name_text c.args.origin.now) (map key_of (c.args.origin.now ∷ c.args.names.now)) all.records rows.items) (state g.S.Store c.args.conn.now) c.args.origin.now found c.reveal_name.ensures tells)
    (rw (c.deref.ensures, c.in_ok-text.ensures.canonical) at (c.rows_at.ensures.found clean))

pub returns-clause-asks : goal.returns-clause-asks
returns-clause-asks g c =
    let old = state g.S.Store c.args.conn.now in
    let new = state g.S.Store c.rows_at.new.conn in
    (asked_once old new c.rows_at.ensures.asks, λ clean. on_ok_weaker c.rows_at.result (λ shows. only_shown old new c.rows_at.ensures.asks shows) (c.rows_at.ensures.same clean))

pub returns-in_err-check_alone-clause-asks : goal.returns-in_err-check_alone-clause-asks
returns-in_err-check_alone-clause-asks g c = refused_early (state g.S.Store c.args.conn.now) c.from_residual.result c.from_residual.ensures.0

pub returns-in_err-text-clause-asks : goal.returns-in_err-text-clause-asks
returns-in_err-text-clause-asks g c = refused_early (state g.S.Store c.args.conn.now) c.from_residual-in_err-text.result c.from_residual-in_err-text.ensures.0
