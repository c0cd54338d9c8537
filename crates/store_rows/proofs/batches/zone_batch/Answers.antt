use Rattle.std.proofs.Common.{◌≡◌, ℕ, List, [], ◌∷◌, None, map, string_bytes, ap, ◌∙◌}
use Rattle.dns_names.specs.Spelling.{name_text}
use Rattle.zone_core.specs.Sets.{listing}
use Rattle.store_rows.specs.RecordRows.{record_row}
use Rattle.store_rows.proofs.batches.zone_batch.Goals as goal
use Rattle.store_rows.proofs.BatchLaws.{zone_leads}

pub returns-clause-exact : goal.returns-clause-exact
returns-clause-exact c =
    let zone = c.args.zone.now in
    let own : c.origin-origin.result.now ≡ zone.origin = c.origin-origin.ensures.value in
    let names : map string_bytes c.in_ok-zones.zones.items ≡ name_text zone.origin ∷ [] =
    ap (map string_bytes) c.in_ok-zones.ensures.items ∙ ap (λ (x : List ℕ). x ∷ []) (c.in_ok-row.ensures.canonical ∙ ap name_text own) in
    let rows : c.in_ok-record_rows.field-0.items ≡ map (record_row zone.origin) (listing zone.records) =
    c.in_ok-record_rows.ensures ∙ (λ i. map (record_row (own i)) (c.records.ensures.value i)) in
    λ i. record { version = None; zones = names i; removed = c.new.ensures.items i; added = rows i; changes = c.new-2.ensures.items i; receipts = c.new-3.ensures.items i }

pub returns-clause-leads : goal.returns-clause-leads
returns-clause-leads c = zone_leads c.args.zone.now _ c.reveal_zone.ensures.name c.reveal_zone.ensures.zone (returns-clause-exact c)
