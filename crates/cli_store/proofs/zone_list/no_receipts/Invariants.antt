use Rattle.std.proofs.Common.{◌≡◌, ℕ, List, take}
use Rattle.std.specs.BTreeMap.{get}
use Rattle.dns_names.specs.Order.{canonical_cmp}
use Rattle.cli_store.proofs.ZoneListLemmas.{none_yet}
use Rattle.cli_store.proofs.zone_list.no_receipts.Given as goal

-- the origins of the zones so far
abbrev pub invariant-loop-zone : goal.invariant-loop-zone
invariant-loop-zone l = (origin : List (List ℕ)) → get canonical_cmp l.counts origin ≡ none_yet (take l.zone-index l.zones) origin
