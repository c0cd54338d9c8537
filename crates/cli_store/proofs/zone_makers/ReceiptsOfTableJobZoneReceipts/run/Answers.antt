use Rattle.std.proofs.Common.{inl, inr, refl, sym}
use Rattle.std.proofs.lemmas.Result.{err_from_is_err_and}
use Rattle.office_store.proofs.QueryLemmas.{asked_then, only_then}
use Rattle.cli_store.proofs.HistoryLemmas.{no_changes_held, no_zone_held}
use Rattle.cli_store.proofs.zone_makers.ReceiptsOfTableJobZoneReceipts.run.Goals as goal

pub returns-in_err-changes : goal.returns-in_err-changes
returns-in_err-changes g c =
    let p = err_from_is_err_and c.from_residual.result c.from_residual.ensures.1 in
    let e = c.in_err-changes.ensures in
    rw (p.1, p.2) (e.asks, λ clean s held. inr e.named)

pub returns-in_default : goal.returns-in_default
returns-in_default g c =
    let e = c.in_ok-changes.ensures in
    ((e.asks.0, λ clean. tt), λ clean s held. inl (refl, no_changes_held s _ ((rw c.in_default.is at (e.answer clean)) s held)))

pub returns-in_err-zone : goal.returns-in_err-zone
returns-in_err-zone g c =
    let p = err_from_is_err_and c.from_residual-in_err-zone.result c.from_residual-in_err-zone.ensures.1 in
    let e = c.in_err-zone.ensures in
    rw (p.1, p.2) ((asked_then _ _ _ c.in_ok-changes.ensures.asks.0 e.asks.0, λ clean. tt), λ clean s held. inr e.named)

pub returns-in_default-2 : goal.returns-in_default-2
returns-in_default-2 g c =
    let e = c.in_ok-changes.ensures in
    let f = c.in_ok-zone.ensures in
    ((asked_then _ _ _ e.asks.0 f.asks.0, λ clean. tt), λ clean s held. inl (refl, no_zone_held s _ ((rw c.in_default-2.is at (f.answer clean)) s (e.asks.0.same s held))))

pub returns-in_err-kept : goal.returns-in_err-kept
returns-in_err-kept g c =
    let p = err_from_is_err_and c.from_residual-in_err-kept.result c.from_residual-in_err-kept.ensures.1 in
    let e = c.in_err-kept.ensures in
    rw (p.1, p.2)
    ((asked_then _ _ _ (asked_then _ _ _ c.in_ok-changes.ensures.asks.0 c.in_ok-zone.ensures.asks.0) e.asks.0, λ clean. tt), λ clean s held. inr e.named)

pub returns : goal.returns
returns g c =
    let e = c.in_ok-changes.ensures in
    let f = c.in_ok-zone.ensures in
    let k = c.in_ok-kept.ensures in (
      (
        asked_then _ _ _ (asked_then _ _ _ e.asks.0 f.asks.0) k.asks.0,
        λ clean. only_then _ _ _ (only_then _ _ _ (e.asks.1 (f.asks.0.honest (k.asks.0.honest clean))) (f.asks.1 (k.asks.0.honest clean))) (k.asks.1 clean),
      ),
      λ clean s held. (
        sym ((rw c.in-Some-2.is at (f.answer (k.asks.0.honest clean))) s (e.asks.0.same s held)),
        sym ((rw c.in-Some.is at (e.answer (f.asks.0.honest (k.asks.0.honest clean)))) s held),
        k.answer clean s (f.asks.0.same s (e.asks.0.same s held)),
      ),
    )
