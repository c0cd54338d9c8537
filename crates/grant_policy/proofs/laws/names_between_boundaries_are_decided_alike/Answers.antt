use Rattle.grant_policy.proofs.BoundaryLemmas.{decides_alike}
use Rattle.grant_policy.proofs.laws.names_between_boundaries_are_decided_alike.Goals as goal

pub returns : goal.returns
returns c = decides_alike
