use Rattle.std.proofs.Common.{arith, [], ◌∷◌, ◌++◌, List, length, ap, subst, ◌∙◌, ◌<◌}
use Rattle.zone_core.specs.declared.update.Operation.{Operation}
use Rattle.zone_tools.specs.IdleOperations.{idle_from}
use Rattle.zone_tools.proofs.IdleLemmas.{next_idle, all_idle}
use Rattle.zone_tools.proofs.idle.idle_operations.Goals as goal

pub loop-i-preserved : goal.loop-i-preserved
loop-i-preserved c =
    next_idle c.args.zone.now c.args.update.now c.operations-operations.result.now c.loop-i.i c.index-operations-i.result c.loop-i.found.items _ _ c.loop-i-test.true c.index-operations-i.is c.loop-i.invariant
    (c.in_ok-push.ensures.items ∙ ap (λ x. c.loop-i.found.items ++ x ∷ []) c.in_ok-idle_at.ensures)

pub returns : goal.returns
returns c = all_idle c.args.zone.now c.args.update.now c.operations-operations.result.now c.loop-i.i c.loop-i.found.items _ c.loop-i-test.false c.loop-i.invariant

pub loop-i-init : goal.loop-i-init
loop-i-init c =
    ap (λ found. found ++ idle_from c.args.zone.now c.args.update.now 0 c.operations-operations.result.now) c.new-found.ensures.items
    ∙ ap (λ (ops : List Operation). idle_from c.args.zone.now c.args.update.now 0 ops) c.operations-operations.ensures.value

pub idle_at-requires-clause-place : goal.idle_at-requires-clause-place
idle_at-requires-clause-place c = subst (λ (ops : List Operation). c.loop-i.i < length ops) c.operations-operations.ensures.value c.loop-i-test.true

pub idle_at-requires-clause-few : goal.idle_at-requires-clause-few
idle_at-requires-clause-few c =
    let lt : c.loop-i.i < length c.args.update.now.operations = subst (λ (ops : List Operation). c.loop-i.i < length ops) c.operations-operations.ensures.value c.loop-i-test.true in
    omega (arith, c.operations-operations.ensures.update.few_operations)
