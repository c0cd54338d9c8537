use Rattle.std.proofs.Common.{◌≡◌, take}
use Rattle.dns_data.proofs.strings.Strings.try_copy.Given as goal

abbrev pub invariant-loop-string : goal.invariant-loop-string
invariant-loop-string l = l.strings.items ≡ take l.string-index l.string-items
