use Rattle.std.proofs.Common.{◌∙◌}
use Rattle.std.proofs.Common.{ap, map, Bor, take_all}
use Rattle.zone_core.specs.declared.update.Prerequisite.{Prerequisite}
use Rattle.zone_core.specs.Updates.{tested_name}
use Rattle.cli_updates.specs.Slots.{first_at}
use Rattle.cli_updates.proofs.SlotLemmas.{names_lent, place_more}
use Rattle.cli_updates.proofs.slots.tested_places.Goals as goal

pub loop-place-preserved : goal.loop-place-preserved
loop-place-preserved c =
    let at = c.loop-place.place in
    λ q.
    c.in_ok-put_place.ensures q
    ∙ rw (c.loop-place.invariant q, c.name.ensures) (place_more (λ (p : Bor Prerequisite). tested_name p.now) c.args.tests.now at c.index-tests-place.result q c.loop-place-test.true c.index-tests-place.is)

pub returns : goal.returns
returns c = λ q.
    c.loop-place.invariant q
    ∙ ap (λ names. first_at names q) (ap (map (λ (p : Bor Prerequisite). tested_name p.now)) (take_all c.loop-place.place c.args.tests.now c.loop-place-test.false) ∙ names_lent c.args.tests.now)
