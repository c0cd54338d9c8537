use Rattle.std.proofs.Common.{◌≡◌, List, length, not, ◌==◌, sym, ap, ◌∙◌}
use Rattle.std.specs.List.{list_any}
use Rattle.dns_names.specs.Labels.{is_within}
use Rattle.dns_data.specs.declared.record.Record.{Record}
use Rattle.zone_core.specs.Sets.{Records, key_of, listing, part, within}
use Rattle.zone_core.proofs.RowLemmas.{listing-part, some_kept}
use Rattle.answer_reach.proofs.asker.is_there.Goals as goal

pub returns : goal.returns
returns c =
    let set = c.args.zone.now.records in
    let name = c.args.name.now in
    let rs = c.records.result.now in
    let run = c.records_within.ensures ∙ ap (λ (s : Records). listing (part s (within name))) (sym c.records.ensures.set) ∙ listing-part (within name) rs c.records.ensures.order in
    let rest : not (length c.records_within.result.now == 0) ≡ list_any (λ (r : Record). is_within r.owner name) rs =
    ap (λ (xs : List Record). not (length xs == 0)) run ∙ some_kept (λ r. within name (key_of r)) rs in
    ap not c.is_empty.ensures ∙ rest ∙ ap (list_any (λ (r : Record). is_within r.owner name)) c.records.ensures.value
