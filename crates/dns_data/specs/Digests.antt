-- Digests of DS records (RFC 4034 sections 5.1.4 and 5.3).
use Rattle.std.specs.Prelude.{◌≡◌, ℕ, ◌+◌, ◌*◌, ◌<◌, ◌≤◌, List, [], ◌∷◌, length, ◌==◌, nat_lt, if◌then◌else◌, Some, Result, Ok, Err}
use Rattle.std.specs.List.{AllByRecursion}
use Rattle.hex.specs.declared.error.FromHexError.{FromHexError}
use Rattle.hex.specs.Hex.{hex_digit_value, decode_of}
use Rattle.dns_data.specs.declared.data_fault.DataFault.{DataFault}
use Rattle.dns_data.specs.declared.data_fault.DataFault.TheVariants.{BadDigest, DataTooLong}
use Rattle.dns_data.specs.Faults.{◌>>=◌}

-- one octet or more; with the four octets before them at most 65,535 (RFC 4034 section 5.1, RFC 1035 section 3.2.1)
pub record IsDigest (digest : List ℕ) : Type 0 where
  pub octets : AllByRecursion (λ o. o < 256) digest
  pub some : 0 < length digest
  pub fits : length digest ≤ 65531

-- ---- spelling

-- an octet by two hexadecimal digits, each in either letter case, the high one first
pub record SpellsPair (octet high low : ℕ) : Type 0 where
  pub high_digit : ℕ
  pub low_digit : ℕ
  pub high_is : hex_digit_value high ≡ Some high_digit
  pub low_is : hex_digit_value low ≡ Some low_digit
  pub octet_is : octet ≡ high_digit * 16 + low_digit

-- a digest by a pair of digits for each octet
abbrev pub SpellsDigest : List ℕ → List ℕ → Type 0
SpellsDigest [] text = text ≡ []
SpellsDigest (octet ∷ octets) text =
    (high low : ℕ) × (rest : List ℕ) × (text ≡ high ∷ low ∷ rest) × SpellsPair octet high low × SpellsDigest octets rest

-- ---- reading

-- the octets of pairs of digits
abbrev pub of_pairs : Result (List ℕ) FromHexError → Result (List ℕ) DataFault
of_pairs (Ok octets) = Ok octets
of_pairs (Err e) = Err BadDigest

-- a digest has an octet, and room in its data
abbrev pub fitting_digest : List ℕ → Result (List ℕ) DataFault
fitting_digest octets = if length octets == 0 then Err BadDigest else (if nat_lt 65531 (length octets) then Err DataTooLong else Ok octets)

-- what the digits of a digest say
abbrev pub digest_of : List ℕ → Result (List ℕ) DataFault
digest_of text = of_pairs (decode_of text) >>= fitting_digest
