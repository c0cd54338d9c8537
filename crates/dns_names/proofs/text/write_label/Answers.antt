use Rattle.std.proofs.Common.{refl}
use Rattle.std.proofs.Output.{has_written_append}
use Rattle.dns_names.proofs.text.write_label.Goals as goal

pub returns : goal.returns
returns g c = λ plain ok.
    let octets = c.in_ok-write_octets.ensures plain refl in
    has_written_append _ _ _ _ _ _ octets (c.write_str.ensures.writes octets.plain ok)
