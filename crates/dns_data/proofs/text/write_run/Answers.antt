use Rattle.dns_data.proofs.RunLemmas.{plain_utf8}
use Rattle.dns_data.proofs.text.write_run.Goals as goal

pub from_utf8_unchecked-requires : goal.from_utf8_unchecked-requires
from_utf8_unchecked-requires g c = plain_utf8 c.args.octets.now c.requires
