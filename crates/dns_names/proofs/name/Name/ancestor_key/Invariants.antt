use Rattle.std.proofs.Common.{◌≡◌, ◌≤◌, length, drop, reverse}
use Rattle.std.specs.List.{flat_map}
use Rattle.dns_names.specs.Keys.{label_key}
use Rattle.dns_names.proofs.name.Name.ancestor_key.Given as goal

-- what is left is the key of the labels that were not passed, from the right
abbrev pub invariant-loop : goal.invariant-loop
invariant-loop l = (l.counter ≤ length l.self) × (l.rest ≡ flat_map label_key (drop l.counter (reverse l.self)))
