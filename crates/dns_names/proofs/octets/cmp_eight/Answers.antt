use Rattle.std.proofs.Common.{◌∙◌, sym}
use Rattle.dns_names.proofs.OctetLemmas.{by_worth, eight}
use Rattle.dns_names.proofs.octets.cmp_eight.Goals as goal

pub returns : goal.returns
returns c =
    rw (c.cmp.ensures, c.from_be_bytes.ensures, c.from_be_bytes-2.ensures, eight c.args.first.now c.told-first, eight c.args.second.now c.told-second)
    (sym (by_worth c.args.first.now c.args.second.now (c.told-first ∙ sym c.told-second) c.fits-first c.fits-second))
