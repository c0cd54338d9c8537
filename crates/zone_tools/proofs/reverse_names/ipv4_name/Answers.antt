use Rattle.std.proofs.Common.{◌∙◌, ap}
use Rattle.dns_names.specs.Reading.{absolute_name}
use Rattle.zone_tools.specs.ReverseNames.{ipv4_name}
use Rattle.zone_tools.proofs.ReverseNameLemmas.{ipv4_read}
use Rattle.zone_tools.proofs.reverse_names.ipv4_name.Goals as goal

pub returns : goal.returns
returns c =
    c.name_of.ensures (ipv4_name c.args.address)
    (ap absolute_name (c.deref.ensures.value ∙ c.in_ok-text.ensures.text) ∙ ipv4_read c.args.address c.ipv4_text.ensures.address)
