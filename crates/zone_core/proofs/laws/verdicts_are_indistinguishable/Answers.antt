use Rattle.std.specs.Prelude.{◌≡◌, true}
use Rattle.zone_core.proofs.VisibilityLemmas.{verdicts_are_indistinguishable}
use Rattle.zone_core.proofs.laws.verdicts_are_indistinguishable.Goals as goal

pub returns : goal.returns
returns c = λ seen. verdicts_are_indistinguishable (λ name. seen name ≡ true)
