use Rattle.std.proofs.Common.{◌≡◌, ℕ, ◌<◌, ◌^◌, sym, ◌∙◌, subst, arith}
use Rattle.policy_tools.specs.Points.{pairs, names_pair}
use Rattle.policy_tools.proofs.PointLemmas.{no_bits, one_bit, same_bits, all_bits}
use Rattle.policy_tools.proofs.points.Points.among.Goals as goal
use Rattle.policy_tools.proofs.points.Points.among.Goals.{then-names, else-names}

pub loop-number-init : goal.loop-number-init
loop-number-init c = no_bits (names_pair c.args.types.now c.args.actions.now)

pub loop-number-preserved : goal.loop-number-preserved
loop-number-preserved c =
    let types = c.args.types.now in
    let actions = c.args.actions.now in
    let n = c.loop-number.number in
    let bits = c.loop-number.bits in
    elim c.if-names.branch [
      | then-names w ↦ rw w.bits-is (one_bit (names_pair types actions) n bits c.loop-number-test.true c.loop-number.invariant (sym c.names.ensures ∙ w.if-names.true))
      | else-names w ↦ rw w.bits-is (same_bits (names_pair types actions) n bits c.loop-number-test.true c.loop-number.invariant (sym c.names.ensures ∙ w.if-names.false))
    ]

pub invariant_of-result : goal.invariant_of-result
invariant_of-result c =
    let n = c.loop-number.number in
    let e : n ≡ pairs = omega (arith, c.loop-number.auto.number-end, c.loop-number-test.false) in
    record { few = subst (λ (m : ℕ). c.loop-number.bits < 2 ^ m) e c.loop-number.invariant.few }

pub returns : goal.returns
returns c =
    let n = c.loop-number.number in
    let e : n ≡ pairs = omega (arith, c.loop-number.auto.number-end, c.loop-number-test.false) in
    all_bits (names_pair c.args.types.now c.args.actions.now) n c.loop-number.bits e c.loop-number.invariant
