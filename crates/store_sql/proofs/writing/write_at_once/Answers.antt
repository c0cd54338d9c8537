use Rattle.std.proofs.Common.{inl, inr}
use Rattle.sqlite.specs.Held.{state}
use Rattle.store_sql.proofs.Commits.{on_err, holds_on, keeps_then, left_before}
use Rattle.store_sql.proofs.writing.write_at_once.Goals as goal

pub returns-in_err-check_open-clause-failed : goal.returns-in_err-check_open-clause-failed
returns-in_err-check_open-clause-failed g c =
    on_err c.from_residual.result _ c.check_open.ensures.back

pub returns-in_err-check_open-clause-crash : goal.returns-in_err-check_open-clause-crash
returns-in_err-check_open-clause-crash g c =
    on_err c.from_residual.result _ (λ rows h clean db may. inl (left_before (state g.S.Store c.args.conn.now) (state g.S.Store c.check_open.new.conn) c.check_open.ensures.stays.survives clean db may))

pub returns-in_err-commit-clause-failed : goal.returns-in_err-commit-clause-failed
returns-in_err-commit-clause-failed g c =
    let old = state g.S.Store c.args.conn.now in
    let mid = state g.S.Store c.check_open.new.conn in
    let new = state g.S.Store c.commit.new.conn in
    on_err c.from_residual-in_err-commit.result _ (keeps_then old mid new c.check_open.ensures.back c.in_err-commit.ensures.failed)

pub returns-in_err-commit-clause-crash : goal.returns-in_err-commit-clause-crash
returns-in_err-commit-clause-crash g c =
    let old = state g.S.Store c.args.conn.now in
    let mid = state g.S.Store c.check_open.new.conn in
    let new = state g.S.Store c.commit.new.conn in
    on_err c.from_residual-in_err-commit.result _ (λ rows h clean db may. elim (c.in_err-commit.ensures.crash rows (holds_on old mid rows c.check_open.ensures.back h) clean db may) [
      | inl before ↦ inl (left_before old mid c.check_open.ensures.stays.survives (c.commit.ensures.honest clean) db before)
      | inr is ↦ inr is
    ])

pub returns-clause-made : goal.returns-clause-made
returns-clause-made g c rows h = c.in_ok-commit.ensures.made rows (holds_on (state g.S.Store c.args.conn.now) (state g.S.Store c.check_open.new.conn) rows c.check_open.ensures.back h)

pub returns-clause-kept : goal.returns-clause-kept
returns-clause-kept g c rows h = c.in_ok-commit.ensures.kept rows (holds_on (state g.S.Store c.args.conn.now) (state g.S.Store c.check_open.new.conn) rows c.check_open.ensures.back h)
