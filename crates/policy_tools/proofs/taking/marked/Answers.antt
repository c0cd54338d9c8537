use Rattle.std.proofs.Common.{◌≡◌, ℕ, true, false, length, get_or, subst, arith}
use Rattle.std.proofs.lemmas.Bool.{both_ways}
use Rattle.policy_tools.specs.Claims.{AreBelow}
use Rattle.policy_tools.proofs.IdleLemmas.{more_yes, more_no}
use Rattle.policy_tools.proofs.taking.marked.Goals as goal
use Rattle.policy_tools.proofs.taking.marked.Goals.{then-is_found+in_ok-push, else-is_found}

pub loop-place-preserved : goal.loop-place-preserved
loop-place-preserved c =
    let found = c.args.found.now in
    let P : ℕ → Type 0 = λ (j : ℕ). get_or found j false ≡ true in
    let n = c.loop-place.place in
    let xs = c.loop-place.places.items in
    elim c.if-is_found.branch [
      | then-is_found+in_ok-push w ↦ rw (w.places-is, w.in_ok-push.ensures.items) (more_yes P n xs w.if-is_found.true c.loop-place.invariant)
      | else-is_found w ↦ rw w.places-is (more_no P n xs (λ yes'. both_ways (get_or found n false) w.if-is_found.false yes') c.loop-place.invariant)
    ]

pub returns : goal.returns
returns c =
    let found = c.args.found.now in
    let e : c.loop-place.place ≡ length found = omega (arith, c.loop-place.auto.place-end, c.loop-place-test.false) in
    subst (λ (m : ℕ). AreBelow (λ j. get_or found j false ≡ true) m c.loop-place.places.items) e c.loop-place.invariant
