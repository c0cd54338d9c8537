use Rattle.std.proofs.Common.{List, [], ◌∷◌, ◌++◌, ap, refl, ◌∙◌}
use Rattle.std.proofs.lemmas.List.{take_all}
use Rattle.zone_core.specs.declared.update.Operation.{Operation}
use Rattle.zone_core.proofs.BehindLemmas.{behind_more}
use Rattle.zone_tools.proofs.idle.copied.Goals as goal

pub loop-operation-preserved : goal.loop-operation-preserved
loop-operation-preserved c =
    behind_more (λ (xs : List Operation). xs) [] c.args.operations.now c.loop-operation.operation-index c.operation-item.result _ (λ _. refl) c.loop-operation-test.true c.operation-item.is c.loop-operation.invariant
    (c.in_ok-push.ensures.items ∙ ap (λ x. c.loop-operation.copies.items ++ x ∷ []) c.in_ok-try_copy.ensures)

pub returns : goal.returns
returns c = c.loop-operation.invariant ∙ take_all c.loop-operation.operation-index c.args.operations.now c.loop-operation-test.false
