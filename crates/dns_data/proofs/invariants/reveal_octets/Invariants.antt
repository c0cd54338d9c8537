use Rattle.std.proofs.Common.{◌<◌, map, take}
use Rattle.std.specs.List.{AllByRecursion}
use Rattle.dns_data.specs.Items.{item_of}
use Rattle.dns_data.proofs.invariants.reveal_octets.Given as goal

abbrev pub invariant-loop-item : goal.invariant-loop-item
invariant-loop-item l = AllByRecursion (λ item. AllByRecursion (λ o. o < 256) item.raw) (map item_of (take l.item-index l.items))
