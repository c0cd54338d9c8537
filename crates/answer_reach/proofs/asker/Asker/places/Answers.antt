use Rattle.std.proofs.Common.{[], ◌∷◌, cond}
use Rattle.std.specs.List.{filter}
use Rattle.zone_core.specs.Sets.{listing}
use Rattle.zone_core.proofs.BehindLemmas.{behind_all, behind_more}
use Rattle.answer_reach.proofs.GrowLemmas.{filter_more}
use Rattle.answer_reach.specs.ReachTests.{may_be_cut}
use Rattle.answer_reach.proofs.asker.Asker.places.Goals as goal

pub loop-name-preserved : goal.loop-name-preserved
loop-name-preserved c =
    let here = (may_be_cut c.args.self.now.rights.now.rules c.args.self.now.rights.now.caller c.args.self.now.index.now.origin (listing c.args.self.now.index.now.records) c.args.cuts.now) in
    let item = c.name-item.result in
    behind_more (filter here) [] c.args.known.now c.loop-name.name-index item (cond (here item) (item ∷ []) []) (filter_more here item) c.loop-name-test.true c.name-item.is c.loop-name.invariant c.in_ok-push_place.ensures

pub returns : goal.returns
returns c =
    let here = (may_be_cut c.args.self.now.rights.now.rules c.args.self.now.rights.now.caller c.args.self.now.index.now.origin (listing c.args.self.now.index.now.records) c.args.cuts.now) in
    behind_all (filter here) [] c.args.known.now c.loop-name.name-index c.loop-name.invariant c.loop-name-test.false
