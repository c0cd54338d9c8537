use Rattle.std.proofs.Common.{ap, option_map, refl, sym, ◌∙◌}
use Rattle.zone_core.specs.Changes.{change_in}
use Rattle.zone_core.specs.Effects.{zone_after}
use Rattle.office_core.proofs.EmptyChangeLemmas.{none_made, some_made}
use Rattle.office_core.proofs.update.changed.Goals as goal
use Rattle.office_core.proofs.update.changed.Goals.{then-is_empty, else-is_empty}

pub returns : goal.returns
returns c =
    let zone = c.args.zone.now in
    let after = (zone_after zone c.args.update.now).records in
    let made = c.in_ok-change.ensures in
    elim c.if-is_empty.branch [
      | then-is_empty w ↦
          (refl, ap (option_map change_in) w.change-is ∙ none_made zone.records after (change_in c.in_ok-change.change) made (sym c.is_empty.ensures ∙ w.if-is_empty.true))
      | else-is_empty w ↦
          (refl, ap (option_map change_in) w.change-is ∙ some_made zone.records after (change_in c.in_ok-change.change) made (sym c.is_empty.ensures ∙ w.if-is_empty.false))
    ]
