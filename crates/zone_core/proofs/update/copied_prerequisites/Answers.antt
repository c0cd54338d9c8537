use Rattle.std.proofs.Common.{List, [], ◌∷◌, ◌++◌, ap, refl, ◌∙◌}
use Rattle.std.proofs.lemmas.List.{take_all}
use Rattle.zone_core.specs.declared.update.Prerequisite.{Prerequisite}
use Rattle.zone_core.proofs.BehindLemmas.{behind_more}
use Rattle.zone_core.proofs.update.copied_prerequisites.Goals as goal

pub loop-prerequisite-preserved : goal.loop-prerequisite-preserved
loop-prerequisite-preserved c =
    behind_more (λ (xs : List Prerequisite). xs) [] c.args.prerequisites.now c.loop-prerequisite.prerequisite-index c.prerequisite-item.result _ (λ _. refl) c.loop-prerequisite-test.true c.prerequisite-item.is c.loop-prerequisite.invariant
    (c.in_ok-push.ensures.items ∙ ap (λ x. c.loop-prerequisite.copies.items ++ x ∷ []) c.in_ok-try_copy.ensures)

pub returns : goal.returns
returns c = c.loop-prerequisite.invariant ∙ take_all c.loop-prerequisite.prerequisite-index c.args.prerequisites.now c.loop-prerequisite-test.false
