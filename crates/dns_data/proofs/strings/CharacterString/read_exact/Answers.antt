use Rattle.std.proofs.Common.{arith}
use Rattle.dns_data.proofs.strings.CharacterString.read_exact.Goals as goal

pub invariant_of-result : goal.invariant_of-result
invariant_of-result c =
    let o = c.in_ok-octets.octets in
    record { octets = c.in_ok-octets.ensures.octets; short = omega (arith, c.len.ensures, o.ok.0) }
