use Rattle.dns_master.proofs.RelativeLaws.{relative_read}
use Rattle.dns_master.proofs.laws.relative_is_read.Goals as goal

pub returns : goal.returns
returns c = λ handed origin records is h. relative_read handed origin records is h
