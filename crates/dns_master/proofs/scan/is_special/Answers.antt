use Rattle.dns_master.proofs.SpecialLemmas.{special_read}
use Rattle.dns_master.proofs.scan.is_special.Goals as goal

pub returns : goal.returns
returns c = special_read c.args.octet c.ranges.octet.fits
