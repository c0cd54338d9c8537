use Rattle.std.proofs.Common.{◌∙◌, sym}
use Rattle.std.proofs.lemmas.List.{length-map}
use Rattle.zone_core.specs.Changes.{change_in}
use Rattle.std.proofs.lemmas.Result.{err_from_is_err_and}
use Rattle.office_store.proofs.QueryLemmas.{asked_then, only_then}
use Rattle.cli_store.proofs.FilesLemmas.{map_ok, map_err}
use Rattle.cli_store.proofs.ListLemmas.{summary_of, asks_both}
use Rattle.cli_store.proofs.store_list.summary.Goals as goal

pub returns-in_err-zone-clause-asks : goal.returns-in_err-zone-clause-asks
returns-in_err-zone-clause-asks g c =
    let p = err_from_is_err_and c.from_residual-in_err-zone.result c.from_residual-in_err-zone.ensures.1 in
    rw p.1 (asked_then _ _ _ c.in_ok-changes.ensures.asks.0 c.in_err-zone.ensures.asks.0, λ clean. tt)

pub returns-in_default-2-clause-asks : goal.returns-in_default-2-clause-asks
returns-in_default-2-clause-asks g c = (asked_then _ _ _ c.in_ok-changes.ensures.asks.0 c.in_ok-zone.ensures.asks.0, λ clean. tt)

pub returns-clause-asks : goal.returns-clause-asks
returns-clause-asks g c =
    let e = c.in_ok-changes.ensures in
    let f = c.in_ok-zone.ensures in
    asks_both _ _ c.summed.result (asked_then _ _ _ e.asks.0 f.asks.0) (λ clean. only_then _ _ _ (e.asks.1 (f.asks.0.honest clean)) (f.asks.1 clean))

pub returns-clause-summary : goal.returns-clause-summary
returns-clause-summary g c = λ clean.
    let e = c.in_ok-changes.ensures in
    let f = c.in_ok-zone.ensures in
    map_ok c.summed.result (λ z is s held.
    let there = (rw c.in-Some-2.is at (f.answer clean)) s (e.asks.0.same s held) in
    let listed = (rw c.in-Some.is at (e.answer (f.asks.0.honest clean))) s held in
    let count = rw c.deref.ensures.value at is.3 in
    summary_of s c.args.origin.now _ _ z is.0 there listed is.1 is.2 (count ∙ sym (length-map c.in-Some.changes.items change_in)))
    c.summed.ensures.summed

pub returns-clause-origin : goal.returns-clause-origin
returns-clause-origin g c = map_ok c.summed.result (λ z is. is.0) c.summed.ensures.summed

pub returns-clause-failed : goal.returns-clause-failed
returns-clause-failed g c = λ clean. map_err c.summed.result (λ e failed s held some. failed) c.summed.ensures.failed
