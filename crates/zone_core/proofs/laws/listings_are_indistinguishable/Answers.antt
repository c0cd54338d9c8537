use Rattle.std.specs.Prelude.{◌≡◌, true}
use Rattle.zone_core.proofs.VisibilityLemmas.{listings_are_indistinguishable, parts_are_indistinguishable}
use Rattle.zone_core.proofs.laws.listings_are_indistinguishable.Goals as goal

pub returns-clause-whole : goal.returns-clause-whole
returns-clause-whole c = λ seen. listings_are_indistinguishable (λ name. seen name ≡ true)

pub returns-clause-part : goal.returns-clause-part
returns-clause-part c = λ seen. parts_are_indistinguishable (λ name. seen name ≡ true)
