use Rattle.std.proofs.Common.{sym, append-nil}
use Rattle.std.specs.List.{flat_map}
use Rattle.zone_core.proofs.BehindLemmas.{behind_all, behind_more, flat_map_push}
use Rattle.answer_reach.specs.ReachTests.{named_by_rule}
use Rattle.answer_reach.proofs.name_lists.push_by_rules.Goals as goal

pub loop-rule-init : goal.loop-rule-init
loop-rule-init c = sym (append-nil c.args.names.now.items)

pub loop-rule-preserved : goal.loop-rule-preserved
loop-rule-preserved c =
    let here = (named_by_rule c.args.origin.now) in
    let item = c.rule-item.result in
    behind_more (flat_map here) c.args.names.now.items c.args.rules.now c.loop-rule.rule-index item (here item) (flat_map_push here item) c.loop-rule-test.true c.rule-item.is c.loop-rule.invariant c.in_ok-push_up_to.ensures

pub returns : goal.returns
returns c =
    let here = (named_by_rule c.args.origin.now) in
    behind_all (flat_map here) c.args.names.now.items c.args.rules.now c.loop-rule.rule-index c.loop-rule.invariant c.loop-rule-test.false
