use Rattle.std.proofs.Common.{List, [], IfOk, subst}
use Rattle.std.specs.List.{flat_map}
use Rattle.zone_core.specs.Sets.{listing}
use Rattle.zone_core.proofs.BehindLemmas.{behind_all, behind_more, flat_map_push}
use Rattle.zone_core.specs.Delegations.{AreNamesOf}
use Rattle.zone_answers.specs.Answers.{Name}
use Rattle.answer_reach.specs.ReachTests.{arising_from}
use Rattle.answer_reach.proofs.asker.Asker.arising.Goals as goal

pub loop-name-preserved : goal.loop-name-preserved
loop-name-preserved c =
    let here = (arising_from c.args.self.now.rights.now.rules c.args.self.now.rights.now.caller c.args.self.now.index.now.origin (listing c.args.self.now.index.now.records)) in
    let item = c.name-item.result in
    behind_more (flat_map here) [] c.args.known.now c.loop-name.name-index item (here item) (flat_map_push here item) c.loop-name-test.true c.name-item.is c.loop-name.invariant c.in_ok-push_arising.ensures

pub returns : goal.returns
returns c =
    let here = (arising_from c.args.self.now.rights.now.rules c.args.self.now.rights.now.caller c.args.self.now.index.now.origin (listing c.args.self.now.index.now.records)) in
    let all = behind_all (flat_map here) [] c.args.known.now c.loop-name.name-index c.loop-name.invariant c.loop-name-test.false in
    subst (λ (l : List Name). IfOk c.ordered.result (λ ordered. AreNamesOf ordered.items l)) all c.ordered.ensures
