use Rattle.std.proofs.Common.{◌≡◌, drop, map}
use Rattle.std.specs.List.{AllByRecursion}
use Rattle.dns_data.specs.Items.{item_of}
use Rattle.dns_data.specs.Strings.{IsString}
use Rattle.dns_data.specs.Reading.{each_string}
use Rattle.dns_data.proofs.EachLemmas.{read_on}
use Rattle.dns_data.proofs.fields.each_string.Given as goal

abbrev pub invariant-loop-item : goal.invariant-loop-item
invariant-loop-item l = record {
  each : AllByRecursion IsString l.strings.items;
  so_far : read_on l.strings.items (drop l.item-index l.items) ≡ each_string (map item_of l.items);
}
