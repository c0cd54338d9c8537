use Rattle.std.proofs.Common.{◌≡◌, ◌^◌, ◌-◌, ◌≤◌, drop}
use Rattle.dns_data.proofs.NumberLemmas.{capped, wanted}
use Rattle.dns_data.proofs.number.seconds_with_units.Given as goal

abbrev pub invariant-loop-octet : goal.invariant-loop-octet
invariant-loop-octet l = record {
  fits : l.total ≤ 2 ^ 64 - 1;
  so_far : capped (2 ^ 64 - 1) l.total l.number (drop l.octet-index l.text) ≡ wanted (2 ^ 64 - 1) l.text;
}
