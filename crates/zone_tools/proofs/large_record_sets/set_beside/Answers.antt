use Rattle.std.proofs.Common.{sym, ap, ◌∙◌}
use Rattle.std.specs.List.{filter}
use Rattle.dns_data.specs.Rdata.{type_of}
use Rattle.dns_data.specs.declared.record_type.RecordType.{RecordType}
use Rattle.zone_core.specs.Sets.{Records, key_of, listing, part, at}
use Rattle.zone_core.proofs.RowLemmas.{listing-part}
use Rattle.zone_tools.proofs.large_record_sets.set_beside.Goals as goal

pub returns : goal.returns
returns c =
    let set = c.args.zone.now.records in
    let r = c.args.rr.now in
    let test = at r.owner (type_of r.rdata) in
    let rs = c.records.result.now in
    c.rrset.ensures ∙ ap (λ (t : RecordType). listing (part set (at r.owner t))) c.record_type.ensures.value
    ∙ ap (λ (s : Records). listing (part s test)) (sym c.records.ensures.set)
    ∙ listing-part test rs c.records.ensures.order ∙ ap (filter (λ s. test (key_of s))) c.records.ensures.value
