use Rattle.zone_tools.proofs.MakerLemmas.{other_side, both_sides}
use Rattle.zone_tools.proofs.change_makers.are_same.Goals as goal

pub returns-then-not-are_equal : goal.returns-then-not-are_equal
returns-then-not-are_equal c =
    other_side c.args.change.now c.args.other.now c.are_equal.result (rw (c.deref.ensures.value, c.deref-2.ensures.value) at c.are_equal.ensures) c.if-not-are_equal.true

pub returns : goal.returns
returns c =
    both_sides c.args.change.now c.args.other.now c.are_equal.result c.are_equal-2.result (rw (c.deref.ensures.value, c.deref-2.ensures.value) at c.are_equal.ensures) c.if-not-are_equal.false
    (rw (c.deref-3.ensures.value, c.deref-4.ensures.value) at c.are_equal-2.ensures)
