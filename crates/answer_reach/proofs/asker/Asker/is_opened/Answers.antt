use Rattle.std.proofs.Common.{List, sym, ap, ◌∙◌}
use Rattle.std.proofs.lemmas.Result.{IfOk-weaker}
use Rattle.zone_answers.specs.Answers.{Name}
use Rattle.answer_reach.specs.ReachTests.{within_any}
use Rattle.answer_reach.proofs.PlaceLemmas.{glue_tells}
use Rattle.answer_reach.proofs.asker.Asker.is_opened.Goals as goal

pub returns : goal.returns
returns c =
    let name = c.args.name.now in
    let tells = glue_tells c.args.self.now.rights.now.rules c.args.self.now.rights.now.caller c.args.lists.now.openers.items name (sym c.may_grant.ensures ∙ c.if-may_grant.false) in
    IfOk-weaker c.within_any-2.result _ _ (λ b e. e ∙ ap (λ (names : List Name). within_any names name) (c.deref-2.ensures.value ∙ c.requires.whole.glue) ∙ tells) c.within_any-2.ensures
