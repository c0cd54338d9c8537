use Rattle.std.proofs.Common.{◌≡◌, true, false, sym, subst, ◌∙◌}
use Rattle.zone_core.specs.Sets.{set_of}
use Rattle.zone_core.specs.Updates.{acted_name}
use Rattle.zone_core.specs.Effects.{effect}
use Rattle.zone_core.specs.Nodes.{IsNode, Becomes}
use Rattle.zone_core.proofs.SetLemmas.{name_is, name_self}
use Rattle.zone_core.proofs.EffectLemmas.{step_here, step_away}
use Rattle.zone_core.proofs.effect.effects.Goals.{then-eq+in_ok-node, else-eq}
use Rattle.zone_core.proofs.effect.effects.Goals as goal

pub effect-requires : goal.effect-requires
effect-requires c =
    let same = name_is c.name.result.now c.args.name.now (sym c.eq.ensures ∙ c.if-eq.true) in
    subst (λ n. IsNode n c.loop-operation.node.items) (sym (sym c.name.ensures ∙ same)) c.loop-operation.invariant.0

pub loop-operation-preserved : goal.loop-operation-preserved
loop-operation-preserved c =
    let o = c.args.origin.now in
    let n = c.args.name.now in
    let op = c.operation-item.result in
    let ops = c.args.operations.now in
    let i = c.loop-operation.operation-index in
    let now = set_of c.loop-operation.node.items in
    elim c.if-eq.branch [
      | then-eq+in_ok-node w ↦
          let same : acted_name op ≡ n = sym c.name.ensures ∙ name_is c.name.result.now n (sym c.eq.ensures ∙ w.if-eq.true) in
          let is : Becomes n c.if-eq.node.items (effect o now op) = rw (w.node-is, sym same) w.in_ok-node.ensures in
          (is.node, λ before e. is.set ∙ step_here o n before ops i op c.loop-operation-test.true c.operation-item.is now (c.loop-operation.invariant.1 before e) same)
      | else-eq w ↦
          let differ : acted_name op ≡ n → ⊥ = λ same. let f : true ≡ false = sym (rw (c.name.ensures, same) (name_self n)) ∙ sym c.eq.ensures ∙ w.if-eq.false in cc in (
            rw w.node-is c.loop-operation.invariant.0,
            λ before e. rw w.node-is (step_away o n before ops i op c.loop-operation-test.true c.operation-item.is now (c.loop-operation.invariant.1 before e) differ),
          )
    ]
