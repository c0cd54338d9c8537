use Rattle.std.proofs.lemmas.Result.{err_from_is_err_and}
use Rattle.office_store.proofs.QueryLemmas.{asked_then, only_then}
use Rattle.cli_store.proofs.store_list.WholeListTableJobStoreList.run.Goals as goal

pub returns-in_err-zones : goal.returns-in_err-zones
returns-in_err-zones g c =
    let p = err_from_is_err_and c.from_residual-in_err-zones.result c.from_residual-in_err-zones.ensures.1 in
    let o = c.in_ok-origins.ensures in
    let z = c.in_err-zones.ensures in
    rw (p.1, p.2) ((asked_then _ _ _ o.asks.0 z.asked, λ clean. tt), λ clean s held. z.failed clean s (o.asks.0.same s held) (rw c.deref.ensures.value (o.answer (z.asked.honest clean) s held)))

pub returns-in_err-kept : goal.returns-in_err-kept
returns-in_err-kept g c =
    let p = err_from_is_err_and c.from_residual-in_err-kept.result c.from_residual-in_err-kept.ensures.1 in
    let o = c.in_ok-origins.ensures in
    let z = c.in_ok-zones.ensures in
    let k = c.in_err-kept.ensures in
    rw (p.1, p.2) ((asked_then _ _ _ (asked_then _ _ _ o.asks.0 z.asked) k.asks.0, λ clean. tt), λ clean s held. k.named)

pub returns : goal.returns
returns g c =
    let o = c.in_ok-origins.ensures in
    let z = c.in_ok-zones.ensures in
    let k = c.in_ok-kept.ensures in
    let first = asked_then _ _ _ o.asks.0 z.asked in (
      (
        asked_then _ _ _ first k.asks.0,
        λ clean.
            let mid = k.asks.0.honest clean in
            only_then _ _ _ (let begun = o.asks.1 (z.asked.honest mid) in only_then _ _ _ begun (z.only mid begun.up)) (k.asks.1 clean),
      ),
      λ clean s held.
          let mid = k.asks.0.honest clean in
          (z.summaries mid s (o.asks.0.same s held) (rw c.deref.ensures.value (o.answer (z.asked.honest mid) s held)), k.answer clean s (first.same s held)),
    )
