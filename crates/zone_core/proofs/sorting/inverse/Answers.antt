use Rattle.std.proofs.Common.{arith, length, length-set, get_or, ◌∙◌}
use Rattle.zone_core.proofs.PositionLemmas.{place_within, inverse_more}
use Rattle.zone_core.proofs.sorting.inverse.Goals as goal

pub index_mut-requires : goal.index_mut-requires
index_mut-requires c =
    let q = c.args.sources.now in
    omega (arith, place_within (length q) q c.requires c.loop-i.i c.loop-i-test.true, c.loop-i.invariant.0, c.loop-i.positions.ok.0)

pub loop-i-preserved : goal.loop-i-preserved
loop-i-preserved c =
    let q = c.args.sources.now in
    let i = c.loop-i.i in (
      length-set c.loop-i.positions.items (get_or q i 0) i ∙ c.loop-i.invariant.0,
      inverse_more q c.loop-i.positions.items i c.requires c.loop-i-test.true c.loop-i.invariant.0 c.loop-i.invariant.1,
    )

pub returns : goal.returns
returns c =
    let q = c.args.sources.now in
    (c.loop-i.invariant.0, λ i below. (place_within (length q) q c.requires i below, c.loop-i.invariant.1 i (omega (arith, below, c.loop-i-test.false))))
