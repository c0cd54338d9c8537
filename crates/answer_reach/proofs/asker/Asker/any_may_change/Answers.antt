use Rattle.std.proofs.Common.{◌∙◌, ap}
use Rattle.std.specs.List.{list_any}
use Rattle.std.proofs.lemmas.List.{take_all}
use Rattle.zone_core.specs.Sets.{listing}
use Rattle.answer_reach.specs.ReachTests.{may_change_inside}
use Rattle.answer_reach.proofs.GrowLemmas.{any_more}
use Rattle.answer_reach.proofs.asker.Asker.any_may_change.Goals as goal

pub loop-name-preserved : goal.loop-name-preserved
loop-name-preserved c =
    let here = may_change_inside c.args.self.now.rights.now.rules c.args.self.now.rights.now.caller c.args.self.now.index.now.origin (listing c.args.self.now.index.now.records) c.args.lists.now c.args.asked in
    any_more here c.args.names.now c.loop-name.name-index c.name-item.result c.loop-name-test.true c.name-item.is c.loop-name.invariant c.in_ok-found.ensures

pub returns : goal.returns
returns c =
    let here = may_change_inside c.args.self.now.rights.now.rules c.args.self.now.rights.now.caller c.args.self.now.index.now.origin (listing c.args.self.now.index.now.records) c.args.lists.now c.args.asked in
    c.loop-name.invariant ∙ ap (list_any here) (take_all c.loop-name.name-index c.args.names.now c.loop-name-test.false)
