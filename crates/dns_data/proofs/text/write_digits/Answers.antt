use Rattle.dns_data.proofs.DigestLaws.{digits_are_text}
use Rattle.dns_data.proofs.text.write_digits.Goals as goal

pub from_utf8_unchecked-requires : goal.from_utf8_unchecked-requires
from_utf8_unchecked-requires g c = rw c.put_digits.ensures (digits_are_text c.args.octets.now)
