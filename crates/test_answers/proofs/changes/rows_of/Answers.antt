use Rattle.std.proofs.Common.{ap, sym, ◌∙◌}
use Rattle.zone_core.specs.Zones.{ZoneOf}
use Rattle.zone_core.proofs.SetLemmas.{name_is}
use Rattle.test_answers.proofs.changes.rows_of.Goals as goal

pub changed_answers-requires : goal.changed_answers-requires
changed_answers-requires c =
    ap (λ (z : ZoneOf). z.origin) (sym c.zone.ensures) ∙ sym c.origin-before.ensures.value
    ∙ name_is c.origin-before.result.now c.origin-after.result.now (sym c.eq.ensures ∙ c.if-eq.true)
    ∙ c.origin-after.ensures.value ∙ ap (λ (z : ZoneOf). z.origin) c.zone-2.ensures
