use Rattle.std.proofs.Common.{length, sym, ap, subst, ◌∙◌}
use Rattle.zone_core.specs.Sets.{set_of}
use Rattle.zone_core.specs.Views.{ArePositions, AreTaken}
use Rattle.zone_core.proofs.rows.in_order_behind.Goals as goal

pub arranged-requires : goal.arranged-requires
arranged-requires c = subst (λ xs. ArePositions (length xs) c.in_ok-positions.positions.items) c.deref.ensures.value c.in_ok-positions.ensures.positions

pub once-requires : goal.once-requires
once-requires c =
    let rows = c.in_ok-rows.rows.items in
    c.in_ok-positions.ensures.order rows (subst (λ xs. AreTaken xs c.in_ok-positions.positions.items rows) (sym c.deref.ensures.value) c.in_ok-rows.ensures)

pub returns-clause-set : goal.returns-clause-set
returns-clause-set c =
    let rows = c.in_ok-rows.rows.items in
    c.once.ensures.set ∙ c.in_ok-positions.ensures.set rows (subst (λ xs. AreTaken xs c.in_ok-positions.positions.items rows) (sym c.deref.ensures.value) c.in_ok-rows.ensures) ∙ ap set_of c.deref.ensures.value
