use Rattle.std.proofs.Common.{sym, ap, ◌∙◌}
use Rattle.std.specs.List.{filter}
use Rattle.zone_core.specs.Sets.{Records, key_of, listing, part, at_name}
use Rattle.zone_core.proofs.RowLemmas.{listing-part}
use Rattle.zone_tools.proofs.zone_names.records_at.Goals as goal

pub returns : goal.returns
returns c =
    let set = c.args.zone.now.records in
    let name = c.args.name.now in
    let rs = c.records.result.now in
    c.records_at.ensures ∙ ap (λ (s : Records). listing (part s (at_name name))) (sym c.records.ensures.set)
    ∙ listing-part (at_name name) rs c.records.ensures.order ∙ ap (filter (λ r. at_name name (key_of r))) c.records.ensures.value
