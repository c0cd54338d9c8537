use Rattle.std.proofs.Common.{sym, ◌∙◌, ap}
use Rattle.dns_names.specs.Reading.{relative_name}
use Rattle.zone_tools.proofs.ReverseBlockLemmas.{labelled_read}
use Rattle.zone_tools.proofs.reverse_blocks.labelled.Goals as goal

pub returns-in-Ok : goal.returns-in-Ok
returns-in-Ok c =
    let text = c.as_bytes.ensures.value ∙ c.format.ensures.text in
    let both = sym c.in-Ok.ensures.exact ∙ ap (relative_name c.args.name.now) text ∙ labelled_read c.args.octet c.args.name.now c.ranges.octet.fits c.labels.ensures.name c.requires in
    cc both
