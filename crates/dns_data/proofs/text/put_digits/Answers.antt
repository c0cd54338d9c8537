use Rattle.dns_data.proofs.TextLemmas.{at_ok}
use Rattle.dns_data.proofs.text.put_digits.Goals as goal

pub returns : goal.returns
returns c = at_ok c.encode_to_slice.result (c.encode_to_slice.ensures.fits.1 c.requires) c.encode_to_slice.ensures.written
