use Rattle.std.proofs.Common.{◌≡◌, ℕ, ◌<◌, ◌^◌, sym, ◌∙◌, subst, arith}
use Rattle.policy_tools.specs.Points.{pairs}
use Rattle.policy_tools.specs.Wanted.{wants}
use Rattle.policy_tools.proofs.PointLemmas.{no_bits, one_bit, same_bits, all_bits}
use Rattle.policy_tools.proofs.points.Points.wanted.Goals as goal
use Rattle.policy_tools.proofs.points.Points.wanted.Goals.{then-has, else-has}

pub loop-number-init : goal.loop-number-init
loop-number-init c = no_bits (wants c.args.wanted)

pub loop-number-preserved : goal.loop-number-preserved
loop-number-preserved c =
    let wanted = c.args.wanted in
    let n = c.loop-number.number in
    let bits = c.loop-number.bits in
    elim c.if-has.branch [
      | then-has w ↦ rw w.bits-is (one_bit (wants wanted) n bits c.loop-number-test.true c.loop-number.invariant (sym c.has.ensures ∙ w.if-has.true))
      | else-has w ↦ rw w.bits-is (same_bits (wants wanted) n bits c.loop-number-test.true c.loop-number.invariant (sym c.has.ensures ∙ w.if-has.false))
    ]

pub invariant_of-result : goal.invariant_of-result
invariant_of-result c =
    let n = c.loop-number.number in
    let e : n ≡ pairs = omega (arith, c.loop-number.auto.number-end, c.loop-number-test.false) in
    record { few = subst (λ (m : ℕ). c.loop-number.bits < 2 ^ m) e c.loop-number.invariant.few }

pub returns : goal.returns
returns c =
    let n = c.loop-number.number in
    let e : n ≡ pairs = omega (arith, c.loop-number.auto.number-end, c.loop-number-test.false) in
    all_bits (wants c.args.wanted) n c.loop-number.bits e c.loop-number.invariant
