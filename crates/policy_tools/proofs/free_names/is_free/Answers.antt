use Rattle.std.proofs.Common.{not, ap}
use Rattle.std.proofs.lemmas.Bool.Decides.{Decides-at}
use Rattle.policy_tools.proofs.RepresentativeLemmas.{free-Decides}
use Rattle.policy_tools.proofs.free_names.is_free.Goals as goal

pub returns : goal.returns
returns c = Decides-at _ _ (ap not c.is_at.ensures) (free-Decides c.args.rules.now c.args.name.now)
