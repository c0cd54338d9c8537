use Rattle.std.proofs.Common.{[], subst, IfOk}
use Rattle.std.specs.List.{flat_map}
use Rattle.zone_core.specs.Delegations.{cut_owner, cut_owners, AreNamesOf}
use Rattle.zone_core.proofs.BehindLemmas.{behind_all, behind_more, flat_map_push}
use Rattle.zone_core.proofs.report.cuts.Goals as goal

pub loop-record-init : goal.loop-record-init
loop-record-init c = c.new-names.ensures.items

pub loop-record-preserved : goal.loop-record-preserved
loop-record-preserved c =
    let here = cut_owner c.args.origin.now in
    let r = c.record-item.result in
    behind_more (flat_map here) [] c.args.records.now c.loop-record.record-index r _ (flat_map_push here r) c.loop-record-test.true c.record-item.is c.loop-record.invariant c.in_ok-push_cut.ensures

pub returns : goal.returns
returns c =
    subst (λ all. IfOk c.ordered.result (λ names. AreNamesOf names.items all)) (behind_all (cut_owners c.args.origin.now) [] c.args.records.now c.loop-record.record-index c.loop-record.invariant c.loop-record-test.false) c.ordered.ensures
