use Rattle.std.proofs.Common.{[]}
use Rattle.std.specs.List.{flat_map}
use Rattle.zone_core.proofs.BehindLemmas.{behind_all, behind_more, flat_map_push}
use Rattle.answer_reach.specs.Rights.{changed_within}
use Rattle.answer_reach.proofs.rights.changed_names.Goals as goal

pub loop-rule-preserved : goal.loop-rule-preserved
loop-rule-preserved c =
    let here = changed_within c.args.caller.now in
    let item = c.rule-item.result in
    behind_more (flat_map here) [] c.args.rules.now c.loop-rule.rule-index item (here item) (flat_map_push here item) c.loop-rule-test.true c.rule-item.is c.loop-rule.invariant c.in_ok-push_changed.ensures

pub returns : goal.returns
returns c =
    let here = changed_within c.args.caller.now in
    behind_all (flat_map here) [] c.args.rules.now c.loop-rule.rule-index c.loop-rule.invariant c.loop-rule-test.false
