use Rattle.std.proofs.Common.{List, [], IfOk, subst}
use Rattle.std.specs.List.{flat_map}
use Rattle.zone_core.specs.Sets.{listing}
use Rattle.zone_core.proofs.BehindLemmas.{behind_all, behind_more, flat_map_push}
use Rattle.zone_core.specs.Delegations.{AreNamesOf}
use Rattle.zone_answers.specs.Answers.{Name}
use Rattle.answer_reach.specs.ReachTests.{staying_from}
use Rattle.answer_reach.proofs.asker.Asker.staying.Goals as goal

pub loop-record-preserved : goal.loop-record-preserved
loop-record-preserved c =
    let here = (staying_from c.args.self.now.rights.now.rules c.args.self.now.rights.now.caller c.args.self.now.index.now.origin (listing c.args.self.now.index.now.records)) in
    let item = c.record-item.result in
    behind_more (flat_map here) [] c.args.records.now c.loop-record.record-index item (here item) (flat_map_push here item) c.loop-record-test.true c.record-item.is c.loop-record.invariant c.in_ok-push_staying.ensures

pub returns : goal.returns
returns c =
    let here = (staying_from c.args.self.now.rights.now.rules c.args.self.now.rights.now.caller c.args.self.now.index.now.origin (listing c.args.self.now.index.now.records)) in
    let all = behind_all (flat_map here) [] c.args.records.now c.loop-record.record-index c.loop-record.invariant c.loop-record-test.false in
    subst (λ (l : List Name). IfOk c.ordered.result (λ ordered. AreNamesOf ordered.items l)) all c.ordered.ensures
