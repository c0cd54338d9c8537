use Rattle.dns_master.proofs.PartingLaws.{one_part}
use Rattle.dns_master.proofs.part_laws.parts_are_apart.Goals as goal

pub returns : goal.returns
returns c = one_part
