use Rattle.dns_master.specs.InForce.{handed_in}
use Rattle.dns_master.proofs.CarriedLaws.{carried, carried_in_force}
use Rattle.dns_master.proofs.laws.defaults_are_there.Goals as goal

pub returns : goal.returns
returns c = λ statements origin. (carried (handed_in origin) statements, carried_in_force statements origin)
