use Rattle.std.proofs.Common.{◌≡◌, ℕ, List, length, take, option_map, is_none}
use Rattle.std.specs.List.{filter}
use Rattle.std.specs.BTreeMap.{get}
use Rattle.dns_names.specs.Order.{canonical_cmp}
use Rattle.cli_store.specs.ZoneList.{receipts_of}
use Rattle.cli_store.proofs.zone_list.count.Given as goal

-- how many of the receipts so far are of each origin that is there, and of others
abbrev pub invariant-loop-kept : goal.invariant-loop-kept
invariant-loop-kept l = record {
  counts : (origin : List (List ℕ)) → get canonical_cmp l.counts origin ≡ option_map (λ n. receipts_of (take l.kept-index l.all) origin) (get canonical_cmp l.fn.counts origin);
  others : l.others ≡ length (filter (λ k. is_none (get canonical_cmp l.fn.counts k.receipt.origin)) (take l.kept-index l.all));
}
