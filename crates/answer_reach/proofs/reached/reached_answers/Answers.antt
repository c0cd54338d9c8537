use Rattle.std.proofs.Common.{IfOk, subst}
use Rattle.std.proofs.lemmas.Result.{IfOk-weaker}
use Rattle.zone_core.specs.Zones.{IsZone}
use Rattle.zone_core.specs.Sets.{listing}
use Rattle.answer_reach.specs.Rights.{RightsOf}
use Rattle.answer_reach.specs.ReachTests.{AreRowsOf}
use Rattle.answer_reach.proofs.ReachedLemmas.{all_listed}
use Rattle.answer_reach.proofs.RowOrderLemmas.{result_order, result_groups, result_types}
use Rattle.answer_reach.proofs.reached.reached_answers.Goals as goal

pub returns-clause-sound : goal.returns-clause-sound
returns-clause-sound c =
    IfOk-weaker c.all_rows.result _ _ (λ rows are after can name asked differs.
    all_listed c.args.policy.now c.args.caller.now c.args.index.now (subst IsZone c.zone.ensures c.records.ensures.zone) rows.items are after can name asked differs)
    (subst (λ (r : RightsOf). IfOk c.all_rows.result (λ rows. AreRowsOf r.rules r.caller c.args.index.now.origin (listing c.args.index.now.records) rows.items)) c.in_ok-rights.ensures c.all_rows.ensures)

pub returns-clause-order : goal.returns-clause-order
returns-clause-order c =
    IfOk-weaker c.all_rows.result _ _ (λ rows are. result_order c.args.policy.now c.args.caller.now c.args.index.now.origin (listing c.args.index.now.records) rows.items are)
    (subst (λ (r : RightsOf). IfOk c.all_rows.result (λ rows. AreRowsOf r.rules r.caller c.args.index.now.origin (listing c.args.index.now.records) rows.items)) c.in_ok-rights.ensures c.all_rows.ensures)

pub returns-clause-groups : goal.returns-clause-groups
returns-clause-groups c =
    IfOk-weaker c.all_rows.result _ _ (λ rows are. result_groups c.args.policy.now c.args.caller.now c.args.index.now.origin (listing c.args.index.now.records) rows.items are)
    (subst (λ (r : RightsOf). IfOk c.all_rows.result (λ rows. AreRowsOf r.rules r.caller c.args.index.now.origin (listing c.args.index.now.records) rows.items)) c.in_ok-rights.ensures c.all_rows.ensures)

pub returns-clause-types : goal.returns-clause-types
returns-clause-types c =
    IfOk-weaker c.all_rows.result _ _ (λ rows are. result_types c.args.policy.now c.args.caller.now c.args.index.now.origin (listing c.args.index.now.records) rows.items are)
    (subst (λ (r : RightsOf). IfOk c.all_rows.result (λ rows. AreRowsOf r.rules r.caller c.args.index.now.origin (listing c.args.index.now.records) rows.items)) c.in_ok-rights.ensures c.all_rows.ensures)
