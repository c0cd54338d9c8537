use Rattle.std.proofs.Common.{◌∷◌, [], Bool, cond, not}
use Rattle.std.specs.List.{filter}
use Rattle.zone_core.proofs.BehindLemmas.{behind_all, behind_more}
use Rattle.zone_answers.specs.Answers.{Name}
use Rattle.answer_reach.specs.Rights.{may_grant}
use Rattle.answer_reach.proofs.GrowLemmas.{filter_more}
use Rattle.answer_reach.proofs.asker.Asker.ungranted.Goals as goal

pub loop-name-preserved : goal.loop-name-preserved
loop-name-preserved c =
    let here : Name → Bool = λ n. not (may_grant c.args.self.now.rights.now.rules c.args.self.now.rights.now.caller n) in
    let item = c.name-item.result in
    behind_more (filter here) [] c.args.all.now c.loop-name.name-index item (cond (here item) (item ∷ []) []) (filter_more here item) c.loop-name-test.true c.name-item.is c.loop-name.invariant c.in_ok-push_ungranted.ensures

pub returns : goal.returns
returns c =
    let here : Name → Bool = λ n. not (may_grant c.args.self.now.rights.now.rules c.args.self.now.rights.now.caller n) in
    behind_all (filter here) [] c.args.all.now c.loop-name.name-index c.loop-name.invariant c.loop-name-test.false
