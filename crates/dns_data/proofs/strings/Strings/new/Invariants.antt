use Rattle.std.proofs.Common.{◌≡◌, ◌≤◌, take}
use Rattle.dns_data.specs.Strings.{strings_len}
use Rattle.dns_data.proofs.strings.Strings.new.Given as goal

abbrev pub invariant-loop-string : goal.invariant-loop-string
invariant-loop-string l = record {
  summed : l.total ≡ strings_len (take l.string-index l.string-items);
  fit : l.total ≤ 65535;
}
