use Rattle.std.proofs.Common.{◌≡◌, drop, map}
use Rattle.dns_data.specs.Items.{item_of}
use Rattle.dns_data.specs.Reading.{joined}
use Rattle.dns_data.proofs.JoinedLaws.{joined_on}
use Rattle.dns_data.proofs.fields.joined.Given as goal

abbrev pub invariant-loop-item : goal.invariant-loop-item
invariant-loop-item l = joined_on l.octets.items (drop l.item-index l.items) ≡ joined (map item_of l.items)
