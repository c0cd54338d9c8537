use Rattle.dns_master.proofs.PartingLaws.{kept_again_all}
use Rattle.dns_master.proofs.part_laws.kept_part_is_read.Goals as goal

pub returns : goal.returns
returns c = λ handed origin rs of is h short. kept_again_all handed origin rs of is h short
