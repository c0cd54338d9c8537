use Rattle.std.proofs.lemmas.Bool.Decides.{Decides-at}
use Rattle.grant_policy.proofs.DecisionLaws.{has_right-Decides}
use Rattle.grant_policy.proofs.deciding.has_any_right.Goals as goal

pub returns : goal.returns
returns c = Decides-at _ _ c.has_some_right.ensures (has_right-Decides c.args.policy.now c.args.caller.now c.args.name.now)
