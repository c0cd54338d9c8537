use Rattle.dns_master.proofs.PartingLaws.{part_again}
use Rattle.dns_master.proofs.part_laws.parts_are_read.Goals as goal

pub returns : goal.returns
returns c = λ p text handed origin rs of is bytes e kept short. part_again p text handed origin rs of is bytes e kept short
