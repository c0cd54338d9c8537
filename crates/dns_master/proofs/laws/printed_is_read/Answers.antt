use Rattle.dns_master.proofs.ZoneLaws.{zone_read}
use Rattle.dns_master.proofs.laws.printed_is_read.Goals as goal

pub returns : goal.returns
returns c = λ handed origin records is h. zone_read handed origin records is h
