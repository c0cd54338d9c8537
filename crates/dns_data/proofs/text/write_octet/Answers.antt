use Rattle.dns_data.proofs.RunLemmas.{octet_utf8}
use Rattle.dns_data.proofs.text.write_octet.Goals as goal

pub from_utf8_unchecked-requires : goal.from_utf8_unchecked-requires
from_utf8_unchecked-requires g c = rw (c.as_slice.ensures.value, c.spelling-spelling.ensures.text) (octet_utf8 c.args.octet c.spelling-spelling.ensures.octet)
