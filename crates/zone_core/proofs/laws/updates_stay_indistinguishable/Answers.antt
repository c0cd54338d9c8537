use Rattle.std.specs.Prelude.{◌≡◌, true}
use Rattle.zone_core.proofs.VisibilityLemmas.{updates_stay_indistinguishable}
use Rattle.zone_core.proofs.laws.updates_stay_indistinguishable.Goals as goal

pub returns : goal.returns
returns c = λ seen. updates_stay_indistinguishable (λ name. seen name ≡ true)
