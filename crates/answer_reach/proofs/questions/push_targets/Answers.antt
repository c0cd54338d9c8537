use Rattle.std.proofs.Common.{sym, append-nil}
use Rattle.std.specs.List.{flat_map}
use Rattle.dns_data.specs.declared.record.Record.{Record}
use Rattle.zone_core.proofs.BehindLemmas.{behind_all, behind_more, flat_map_push}
use Rattle.answer_reach.specs.ReachTests.{target_list}
use Rattle.answer_reach.proofs.questions.push_targets.Goals as goal

pub loop-record-init : goal.loop-record-init
loop-record-init c = sym (append-nil c.args.names.now.items)

pub loop-record-preserved : goal.loop-record-preserved
loop-record-preserved c =
    let here = (λ (r : Record). target_list r.rdata) in
    let item = c.record-item.result in
    behind_more (flat_map here) c.args.names.now.items c.args.records.now c.loop-record.record-index item (here item) (flat_map_push here item) c.loop-record-test.true c.record-item.is c.loop-record.invariant c.in_ok-push_target.ensures

pub returns : goal.returns
returns c =
    let here = (λ (r : Record). target_list r.rdata) in
    behind_all (flat_map here) c.args.names.now.items c.args.records.now c.loop-record.record-index c.loop-record.invariant c.loop-record-test.false
