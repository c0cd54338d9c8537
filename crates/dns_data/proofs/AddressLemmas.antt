-- Reading addresses.
use Rattle.std.proofs.Common.{◌≡◌, ℕ, List, Option, Some, None, Err, refl, ap}
use Rattle.std.specs.Net.Grammar.{IsIpv4Text, IsIpv6Text}
use Rattle.std.specs.Net.Reader.{whole_value, read_ipv4, read_ipv6}
use Rattle.std.specs.declared.net.ipv4_addr.Ipv4Addr.{Ipv4Addr}
use Rattle.std.specs.declared.net.ipv6_addr.Ipv6Addr.{Ipv6Addr}
use Rattle.dns_data.specs.declared.data_fault.DataFault.TheVariants.{BadAddress}
use Rattle.dns_data.specs.Reading.{ipv4_from, ipv4_of, ipv6_from, ipv6_of}
use Rattle.dns_data.proofs.FieldLaws.{ipv4_sound, ipv6_sound}

pub ipv4_not : (raw : List ℕ) → ((a : Ipv4Addr) → IsIpv4Text raw a → ⊥) → ipv4_of raw ≡ Err BadAddress
ipv4_not raw none = by_value (whole_value (read_ipv4 raw)) refl
  where
    by_value : (o : Option (List ℕ)) → whole_value (read_ipv4 raw) ≡ o → ipv4_of raw ≡ Err BadAddress
    by_value None e = ap ipv4_from e
    by_value (Some octets) e = absurd (none (record { octets = octets }) (ipv4_sound raw (record { octets = octets }) (ap ipv4_from e)))

pub ipv6_not : (raw : List ℕ) → ((a : Ipv6Addr) → IsIpv6Text raw a → ⊥) → ipv6_of raw ≡ Err BadAddress
ipv6_not raw none = by_value (whole_value (read_ipv6 raw)) refl
  where
    by_value : (o : Option (List ℕ)) → whole_value (read_ipv6 raw) ≡ o → ipv6_of raw ≡ Err BadAddress
    by_value None e = ap ipv6_from e
    by_value (Some segments) e = absurd (none (record { segments = segments }) (ipv6_sound raw (record { segments = segments }) (ap ipv6_from e)))
