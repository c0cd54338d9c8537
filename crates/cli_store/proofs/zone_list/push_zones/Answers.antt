use Rattle.std.specs.Prelude.{string_bytes, unwrap_or}
use Rattle.std.specs.List.{flat_map}
use Rattle.std.specs.BTreeMap.{get}
use Rattle.dns_names.specs.Order.{canonical_cmp}
use Rattle.cli_store.specs.ZoneList.{zone_line}
use Rattle.cli_store.proofs.LogLemmas.{all_taken}
use Rattle.cli_store.proofs.zone_list.push_zones.Goals as goal

pub returns : goal.returns
returns c =
    let l = c.loop-zone in
    all_taken (flat_map (λ z. zone_line z (unwrap_or (get canonical_cmp c.args.counts.now z.origin) 0))) (string_bytes c.args.text.now) c.args.zones.now l.zone-index (string_bytes l.text) c.loop-zone-test.false l.invariant
