use Rattle.dns_master.proofs.CarriedLaws.{one_in_force}
use Rattle.dns_master.proofs.laws.defaults_are_one.Goals as goal

pub returns : goal.returns
returns c = λ statements origin first second a b k h. one_in_force statements origin first second a b k h
