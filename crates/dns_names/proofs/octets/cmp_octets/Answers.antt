use Rattle.std.proofs.Common.{List, ℕ, take, sym, ap, ◌∙◌, arith}
use Rattle.std.specs.Ordering.{nat_cmp}
use Rattle.std.specs.Cmp.Lexicographic.{slice_cmp}
use Rattle.dns_names.proofs.OctetLemmas.{front_decides, front_passes}
use Rattle.dns_names.proofs.octets.cmp_octets.Goals as goal

pub returns-then-is_ne : goal.returns-then-is_ne
returns-then-is_ne c =
    let ours = c.in-Some.ensures.cases in
    let theirs = c.in-Some-split_first_chunk.ensures.cases in
    let fronts = c.cmp_eight-order.ensures ∙ ap (λ (l : List ℕ). slice_cmp nat_cmp l c.in-Some-split_first_chunk.their.now) ours.0 ∙ ap (slice_cmp nat_cmp (take 8 c.loop-our.ours.now)) theirs.0 in
    front_decides c.loop-our.ours.now c.loop-our.theirs.now 8 _ _ (omega (arith, ours.2)) (omega (arith, theirs.2)) fronts c.loop-our.invariant (sym c.is_ne.ensures ∙ c.if-is_ne.true)

pub loop-our-preserved : goal.loop-our-preserved
loop-our-preserved c =
    let ours = c.in-Some.ensures.cases in
    let theirs = c.in-Some-split_first_chunk.ensures.cases in
    let fronts = c.cmp_eight-order.ensures ∙ ap (λ (l : List ℕ). slice_cmp nat_cmp l c.in-Some-split_first_chunk.their.now) ours.0 ∙ ap (slice_cmp nat_cmp (take 8 c.loop-our.ours.now)) theirs.0 in
    rw (ours.1, theirs.1) (front_passes c.loop-our.ours.now c.loop-our.theirs.now 8 _ _ (omega (arith, ours.2)) (omega (arith, theirs.2)) fronts c.loop-our.invariant (sym c.is_ne.ensures ∙ c.if-is_ne.false))

pub loop-our-smaller : goal.loop-our-smaller
loop-our-smaller c = omega (arith, c.in-Some.ensures.cases.2)
