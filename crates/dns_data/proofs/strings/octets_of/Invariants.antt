use Rattle.std.proofs.Common.{◌≡◌, ◌<◌, length}
use Rattle.std.specs.List.{AllByRecursion}
use Rattle.dns_data.proofs.StringLemmas.{continued, octets_in}
use Rattle.dns_data.proofs.strings.octets_of.Given as goal

abbrev pub invariant-loop-rest : goal.invariant-loop-rest
invariant-loop-rest l = record {
  bytes : AllByRecursion (λ o. o < 256) l.octets.items;
  so_far : continued l.octets.items l.rest ≡ octets_in l.raw;
}

abbrev pub decreases-loop-rest : goal.decreases-loop-rest
decreases-loop-rest l = length l.rest
