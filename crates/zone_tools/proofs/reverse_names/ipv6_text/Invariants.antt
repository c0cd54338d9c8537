use Rattle.std.proofs.Common.{◌≡◌}
use Rattle.std.specs.List.{flat_map}
use Rattle.zone_tools.specs.ReverseNames.{nibbles_text}
use Rattle.zone_tools.proofs.reverse_names.ipv6_text.Given as goal

abbrev pub invariant-loop-octet : goal.invariant-loop-octet
invariant-loop-octet l = l.text.items ≡ flat_map nibbles_text l.yielded
