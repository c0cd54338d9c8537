use Rattle.std.proofs.Common.{◌∙◌}
use Rattle.zone_core.specs.Updates.{acted_name}
use Rattle.cli_updates.proofs.SlotLemmas.{place_more}
use Rattle.cli_updates.proofs.slots.acted_places.Goals as goal

pub loop-place-preserved : goal.loop-place-preserved
loop-place-preserved c =
    let at = c.loop-place.place in
    λ q.
    c.in_ok-put_place.ensures q
    ∙ rw (c.loop-place.invariant q, c.name.ensures) (place_more acted_name c.args.operations.now at c.index-operations-place.result q c.loop-place-test.true c.index-operations-place.is)
