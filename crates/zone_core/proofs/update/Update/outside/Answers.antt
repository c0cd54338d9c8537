use Rattle.std.proofs.Common.{rules}
use Rattle.zone_core.proofs.UpdateLemmas.{none_outside}
use Rattle.zone_core.proofs.update.Update.outside.Goals as goal

pub returns-in-Some-clause-inside : goal.returns-in-Some-clause-inside
returns-in-Some-clause-inside c = none_outside c.args.origin.now c.args.self.now _ (search rules)

pub returns-clause-inside : goal.returns-clause-inside
returns-clause-inside c = none_outside c.args.origin.now c.args.self.now c.map.result (search rules)
