use Rattle.std.proofs.Common.{◌≡◌, ◌++◌, take}
use Rattle.std.specs.Prelude.{string_bytes, unwrap_or}
use Rattle.std.specs.List.{flat_map}
use Rattle.std.specs.BTreeMap.{get}
use Rattle.dns_names.specs.Order.{canonical_cmp}
use Rattle.cli_store.specs.ZoneList.{zone_line}
use Rattle.cli_store.proofs.zone_list.push_zones.Given as goal

abbrev pub invariant-loop-zone : goal.invariant-loop-zone
invariant-loop-zone l = string_bytes l.text ≡ string_bytes l.initial.text ++ flat_map (λ z. zone_line z (unwrap_or (get canonical_cmp l.counts z.origin) 0)) (take l.zone-index l.zones)
