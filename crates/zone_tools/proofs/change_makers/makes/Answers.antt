use Rattle.std.proofs.Common.{sym, ◌∙◌}
use Rattle.zone_core.specs.Changes.{change_in, change_between}
use Rattle.zone_core.specs.Effects.{zone_after}
use Rattle.zone_tools.proofs.MakerLemmas.{not_so, not_met, is_met, met_makes}
use Rattle.zone_tools.proofs.change_makers.makes.Goals as goal

pub returns-then-is_err : goal.returns-then-is_err
returns-then-is_err c = not_so (λ both. not_met c.holds.result c.holds.ensures.met (sym c.is_err.ensures.value ∙ c.if-is_err.true) both.0)

pub returns : goal.returns
returns c =
    let zone = c.args.zone.now in
    met_makes (change_in c.in_ok-made.made) (change_between zone.records (zone_after zone c.args.update.now).records) (change_in c.args.change.now) c.are_same.result
    (is_met c.holds.result c.holds.ensures.met (sym c.is_err.ensures.value ∙ c.if-is_err.false)) c.in_ok-made.ensures c.are_same.ensures
