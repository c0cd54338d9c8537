use Rattle.std.proofs.Common.{◌≡◌, take}
use Rattle.dns_data.specs.Strings.{strings_len}
use Rattle.zone_tools.proofs.large_record_sets.strings_len.Given as goal

abbrev pub invariant-loop-string : goal.invariant-loop-string
invariant-loop-string l = l.len ≡ strings_len (take l.string-index l.string-items)
