use Rattle.wire_json.proofs.DelegationLemmas.{delegated_is}
use Rattle.wire_json.proofs.laws.delegations_are_one.Goals as goal

pub returns : goal.returns
returns c = λ origin request. delegated_is request origin
