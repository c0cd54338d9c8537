use Rattle.std.proofs.Common.{◌≡◌, inl, inr, Err, sym, subst}
use Rattle.std.proofs.lemmas.Result.{err_from_is_err_and}
use Rattle.sqlite.specs.Held.{state}
use Rattle.sqlite.specs.State.{HasCleanDisk}
use Rattle.store_sql.proofs.Commits.{keeps_then, on_err}
use Rattle.store_rows.specs.Contents.{ContentOf}
use Rattle.store_faults.specs.StoreFaults.{IsFailure}
use Rattle.office_store.specs.Migration.{HoldsOld}
use Rattle.office_store.proofs.FaultLemmas.{if_err_at, no_refusal, rows_fail}
use Rattle.office_store.proofs.QueryLemmas.{asked_then}
use Rattle.office_store.proofs.MigrationLemmas.{is_migrated, migrated_so, read_behind}
use Rattle.office_store.proofs.migration.migrate.Goals as goal

pub returns-in_err-check_version-clause-failed : goal.returns-in_err-check_version-clause-failed
returns-in_err-check_version-clause-failed g c = on_err c.from_residual.result _ c.check_version.ensures.shown

pub returns-in_err-check_version-clause-same : goal.returns-in_err-check_version-clause-same
returns-in_err-check_version-clause-same g c told = c.check_version.ensures.asks.0

pub returns-in_err-check_version-clause-crash : goal.returns-in_err-check_version-clause-crash
returns-in_err-check_version-clause-crash g c = on_err c.from_residual.result _ (λ clean db may. inl (c.check_version.ensures.asks.0.left clean db may))

pub returns-in_err-migration-clause-failed : goal.returns-in_err-migration-clause-failed
returns-in_err-migration-clause-failed g c =
    on_err c.from_residual-in_err-migration.result _ (keeps_then (state g.S.Store c.args.conn.now) (state g.S.Store c.check_version.new.conn) (state g.S.Store c.read_migration.new.conn) c.check_version.ensures.shown c.read_migration.ensures.shown)

pub returns-in_err-migration-clause-same : goal.returns-in_err-migration-clause-same
returns-in_err-migration-clause-same g c told = asked_then (state g.S.Store c.args.conn.now) (state g.S.Store c.check_version.new.conn) (state g.S.Store c.read_migration.new.conn) c.check_version.ensures.asks.0 c.read_migration.ensures.asked

pub returns-in_err-migration-clause-crash : goal.returns-in_err-migration-clause-crash
returns-in_err-migration-clause-crash g c =
    on_err c.from_residual-in_err-migration.result _ (λ clean db may. inl ((asked_then (state g.S.Store c.args.conn.now) (state g.S.Store c.check_version.new.conn) (state g.S.Store c.read_migration.new.conn) c.check_version.ensures.asks.0 c.read_migration.ensures.asked).left clean db may))

pub returns-in_err-migration-clause-good : goal.returns-in_err-migration-clause-good
returns-in_err-migration-clause-good g c =
    λ clean.
    let p = err_from_is_err_and c.from_residual-in_err-migration.result c.from_residual-in_err-migration.ensures.1 in
    let is : c.from_residual-in_err-migration.result ≡ Err c.in_err-migration.field-0.0 = cc (p.1, p.2) in
    if_err_at (λ e. (content : ContentOf) → HoldsOld (state g.S.Store c.args.conn.now) content → IsFailure e) _ c.from_residual-in_err-migration.result is
    (λ content h. c.in_err-migration.ensures.good clean content (record { is = h.is; rows = h.rows; same = h.same; held = c.check_version.ensures.asks.0.rows h.rows h.held }))

pub returns-in_err-write-clause-failed : goal.returns-in_err-write-clause-failed
returns-in_err-write-clause-failed g c =
    on_err c.from_residual-in_err-write.result _ (keeps_then (state g.S.Store c.args.conn.now) (state g.S.Store c.read_migration.new.conn) (state g.S.Store c.write.new.conn) (keeps_then (state g.S.Store c.args.conn.now) (state g.S.Store c.check_version.new.conn) (state g.S.Store c.read_migration.new.conn) c.check_version.ensures.shown c.read_migration.ensures.shown) c.in_err-write.ensures.failed)

pub returns-in_err-write-clause-same : goal.returns-in_err-write-clause-same
returns-in_err-write-clause-same g c told =
    let p = err_from_is_err_and c.from_residual-in_err-write.result c.from_residual-in_err-write.ensures.1 in
    absurd (no_refusal p.0 c.from_residual-in_err-write.result p.1 (subst IsFailure (sym p.2) (rows_fail c.in_err-write.field-0.0)) told)

pub returns-in_err-write-clause-crash : goal.returns-in_err-write-clause-crash
returns-in_err-write-clause-crash g c =
    on_err c.from_residual-in_err-write.result _ (λ clean db may.
    let mid = c.write.ensures.honest clean in
    let early = c.read_migration.ensures.asked.honest mid in
    let asked = asked_then (state g.S.Store c.args.conn.now) (state g.S.Store c.check_version.new.conn) (state g.S.Store c.read_migration.new.conn) c.check_version.ensures.asks.0 c.read_migration.ensures.asked in
    let read = read_behind (state g.S.Store c.args.conn.now) (state g.S.Store c.check_version.new.conn) (state g.S.Store c.read_migration.new.conn) c.in_ok-migration.migration.batch c.in_ok-migration.migration.zones c.check_version.ensures.asks.0 (c.in_ok-check_version.ensures.asks.1 early).rows (c.in_ok-migration.ensures.found mid) in
    elim (c.in_err-write.ensures.crash read.rows read.held clean db may) [
      | inl before ↦ inl (asked.left mid db before)
      | inr it ↦ inr (record {
        rows = read.rows;
        held = read.only;
        each = λ others h. migrated_so read.rows others c.in_ok-migration.migration.batch c.in_ok-migration.migration.zones read.migrates (read.same others h) db it;
      })
    ])

pub returns-clause-same : goal.returns-clause-same
returns-clause-same g c told = absurd (elim told [ inl wrong ↦ cc | inr bad ↦ cc ])

pub returns-clause-made : goal.returns-clause-made
returns-clause-made g c =
    λ clean.
    let old = state g.S.Store c.args.conn.now in
    let one = state g.S.Store c.check_version.new.conn in
    let mid = state g.S.Store c.read_migration.new.conn in
    let new = state g.S.Store c.write.new.conn in
    let w = c.in_ok-migration.migration.batch in
    let n = c.in_ok-migration.migration.zones in
    let honest : HasCleanDisk mid = c.write.ensures.honest clean in
    let early : HasCleanDisk one = c.read_migration.ensures.asked.honest honest in
    is_migrated old mid new w n (read_behind old one mid w n c.check_version.ensures.asks.0 (c.in_ok-check_version.ensures.asks.1 early).rows (c.in_ok-migration.ensures.found honest)) c.in_ok-write.ensures.made c.in_ok-write.ensures.kept
