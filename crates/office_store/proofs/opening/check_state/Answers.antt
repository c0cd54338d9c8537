use Rattle.std.proofs.Common.{◌≡◌, Err}
use Rattle.std.proofs.lemmas.Result.{err_from_is_err_and, IfErr-weaker, on_ok_weaker}
use Rattle.sqlite.specs.Held.{state}
use Rattle.office_model.specs.States.{State}
use Rattle.store_faults.specs.StoreFaults.{IsFailure}
use Rattle.store_sql.proofs.Commits.{keeps_then}
use Rattle.office_store.specs.Holds.{HoldsState}
use Rattle.office_store.proofs.QueryLemmas.{asked_then, only_then}
use Rattle.office_store.proofs.FaultLemmas.{if_err_at}
use Rattle.office_store.proofs.opening.check_state.Goals as goal

pub returns-in_err-check_version-clause-good : goal.returns-in_err-check_version-clause-good
returns-in_err-check_version-clause-good g c =
    λ clean.
    let p = err_from_is_err_and c.from_residual.result c.from_residual.ensures.1 in
    let is : c.from_residual.result ≡ Err c.in_err-check_version.field-0.0 = cc (p.1, p.2) in
    if_err_at (λ e. (s : State) → HoldsState (state g.S.Store c.args.conn.now) s → IsFailure e) _ c.from_residual.result is (λ s h. c.in_err-check_version.ensures.good clean h.rows h.are.same.versions h.held)

pub returns-clause-good : goal.returns-clause-good
returns-clause-good g c = λ clean. IfErr-weaker c.check_rows.result _ _ (λ e good s h. good s (c.check_version.ensures.asks.0.same s h)) (c.check_rows.ensures.good clean)

pub returns-clause-asks : goal.returns-clause-asks
returns-clause-asks g c =
    let old = state g.S.Store c.args.conn.now in
    let mid = state g.S.Store c.check_version.new.conn in
    let new = state g.S.Store c.check_rows.new.conn in (
      asked_then old mid new c.check_version.ensures.asks.0 c.check_rows.ensures.asks.0,
      λ clean. on_ok_weaker c.check_rows.result (λ next. only_then old mid new (c.in_ok-check_version.ensures.asks.1 (c.check_rows.ensures.asks.0.honest clean)) next) (c.check_rows.ensures.asks.1 clean),
    )

pub returns-clause-shown : goal.returns-clause-shown
returns-clause-shown g c =
    keeps_then (state g.S.Store c.args.conn.now) (state g.S.Store c.check_version.new.conn) (state g.S.Store c.check_rows.new.conn) c.check_version.ensures.shown c.check_rows.ensures.shown
