use Rattle.std.proofs.Common.{◌≡◌}
use Rattle.std.specs.List.{flat_map}
use Rattle.zone_tools.specs.ReverseNames.{decimal_text}
use Rattle.zone_tools.proofs.reverse_names.ipv4_text.Given as goal

abbrev pub invariant-loop-octet : goal.invariant-loop-octet
invariant-loop-octet l = l.text.items ≡ flat_map decimal_text l.yielded
