use Rattle.std.proofs.Common.{rules, ◌∙◌}
use Rattle.std.proofs.lemmas.Result.{err_from_is_err_and}
use Rattle.sqlite.specs.Held.{state}
use Rattle.office_store.proofs.QueryLemmas.{asked_nothing, asked_then, only_of, only_then}
use Rattle.cli_store.specs.StoreList.{IsSummary}
use Rattle.cli_store.proofs.ListLemmas.{all_more, origins_more, is_held}
use Rattle.cli_store.proofs.store_list.summaries.Goals as goal

pub loop-origin-init : goal.loop-origin-init
loop-origin-init g c = record {
  asked = asked_nothing (state g.S.Store c.args.table.now.conn);
  only = λ clean up. only_of _ _ up (λ rows held. held);
  names = search rules;
  held = search rules;
}

pub loop-origin-preserved : goal.loop-origin-preserved
loop-origin-preserved g c =
    let i = c.loop-origin.invariant in
    let e = c.in_ok-summary.ensures in
    record {
      asked = asked_then _ _ _ i.asked e.asks.0;
      only = λ clean up. only_then _ _ _ (i.only (e.asks.0.honest clean) up) (e.asks.1 clean);
      names = origins_more c.args.origins.now c.loop-origin.origin-index _ c.loop-origin.zones.items _ c.in_ok-summary.field-0 c.loop-origin-test.true i.names (e.origin ∙ c.origin-item.is) c.in_ok-push.ensures.items;
      held = λ clean s held.
          rw c.in_ok-push.ensures.items (all_more (IsSummary s) c.loop-origin.zones.items c.in_ok-summary.field-0 (i.held (e.asks.0.honest clean) s held) (e.summary clean s (i.asked.same s held)));
    }

pub returns-in_err-summary-clause-asked : goal.returns-in_err-summary-clause-asked
returns-in_err-summary-clause-asked g c = asked_then _ _ _ c.loop-origin.invariant.asked c.in_err-summary.ensures.asks.0

pub returns-in_err-summary-clause-only : goal.returns-in_err-summary-clause-only
returns-in_err-summary-clause-only g c =
    let p = err_from_is_err_and c.from_residual.result c.from_residual.ensures.1 in
    rw p.1 (λ clean up. tt)

pub returns-in_err-summary-clause-failed : goal.returns-in_err-summary-clause-failed
returns-in_err-summary-clause-failed g c = λ clean.
    let p = err_from_is_err_and c.from_residual.result c.from_residual.ensures.1 in
    let i = c.loop-origin.invariant in
    rw (p.1, p.2) (λ s held are. c.in_err-summary.ensures.failed clean s (i.asked.same s held) (rw c.origin-item.is (is_held s c.args.origins.now c.loop-origin.origin-index _ are c.loop-origin-test.true)))

pub returns-in_err-push-clause-asked : goal.returns-in_err-push-clause-asked
returns-in_err-push-clause-asked g c = asked_then _ _ _ c.loop-origin.invariant.asked c.in_ok-summary.ensures.asks.0

pub returns-in_err-push-clause-only : goal.returns-in_err-push-clause-only
returns-in_err-push-clause-only g c =
    let p = err_from_is_err_and c.from_residual-in_err-push.result c.from_residual-in_err-push.ensures.1 in
    rw p.1 (λ clean up. tt)
