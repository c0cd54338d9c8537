use Rattle.hex.proofs.HexLemmas.{decode_of-ok}
use Rattle.dns_data.proofs.DigestLaws.{octets_from}
use Rattle.dns_data.proofs.ds.octets_of.Goals as goal

pub returns-in-Ok-clause-octets : goal.returns-in-Ok-clause-octets
returns-in-Ok-clause-octets c = octets_from c.in-Ok.octets.items (decode_of-ok c.args.text.now c.in-Ok.octets.items c.in-Ok.ensures.ok).3
