-- Character-strings (RFC 1035 sections 3.3 and 5.1).
use Rattle.std.specs.Prelude.{◌≡◌, ◌≢◌, ℕ, ◌+◌, ◌<◌, ◌≤◌, ◌⊎◌, List, [], ◌∷◌, ◌++◌, length, map, Bool, false, not, ◌||◌, ◌&&◌, ◌==◌, nat_lt, nat_le, if◌then◌else◌, Result, Ok, Err}
use Rattle.std.specs.List.{AllByRecursion, sum_by, flat_map}
use Rattle.std.specs.Char.{is_ascii_digit}
use Rattle.dns_names.specs.declared.symbol.Symbol.{Symbol}
use Rattle.dns_names.specs.declared.symbol.Symbol.TheVariants.{Dot, Octet}
use Rattle.dns_names.specs.Spelling.{three_digits}
use Rattle.dns_names.specs.Reading.{symbols}
use Rattle.dns_data.specs.declared.data_fault.DataFault.{DataFault}
use Rattle.dns_data.specs.declared.data_fault.DataFault.TheVariants.{StringTooLong}
use Rattle.dns_data.specs.Faults.{◌>>=◌, of_names}

-- octets, at most 255 of them
pub record IsString (string : List ℕ) : Type 0 where
  pub octets : AllByRecursion (λ o. o < 256) string
  pub short : length string ≤ 255

-- how many octets strings take in a message: one before each, for its length
abbrev pub strings_len : List (List ℕ) → ℕ
strings_len strings = sum_by (λ string. length string + 1) strings

-- one string or more, at most 65,535 octets together (RFC 1035 sections 3.2.1 and 3.3.14)
pub record AreStrings (strings : List (List ℕ)) : Type 0 where
  pub each : AllByRecursion IsString strings
  pub some : 0 < length strings
  pub fit : strings_len strings ≤ 65535

-- ---- spelling

-- An octet is spelled by itself (but not a backslash), by `\X` with X no digit, or by `\DDD`, its number.
abbrev pub SpellsOctet : ℕ → List ℕ → Type 0
SpellsOctet octet text =
    ((octet ≢ 92) × (text ≡ octet ∷ []))
    ⊎ (((is_ascii_digit octet ≡ false) × (text ≡ 92 ∷ octet ∷ []))
    ⊎ ((octet < 256) × (text ≡ 92 ∷ three_digits octet)))

-- a string by its octets in turn
abbrev pub SpellsString : List ℕ → List ℕ → Type 0
SpellsString [] raw = raw ≡ []
SpellsString (octet ∷ octets) raw =
    (front rest : List ℕ) × (raw ≡ front ++ rest) × SpellsOctet octet front × SpellsString octets rest

-- ---- reading

abbrev pub symbol_octet : Symbol → ℕ
symbol_octet Dot = 46
symbol_octet (Octet octet) = octet

abbrev pub short_string : List ℕ → Result (List ℕ) DataFault
short_string octets = if nat_lt 255 (length octets) then Err StringTooLong else Ok octets

-- the octets that an item stands for
abbrev pub string_of : List ℕ → Result (List ℕ) DataFault
string_of raw = of_names (symbols raw) >>= λ all. short_string (map symbol_octet all)

-- ---- text

-- within quotes: `"` and `\` with a backslash, other octets from 32 to 126 plain, all others `\DDD`
abbrev pub octet_text : ℕ → List ℕ
octet_text o = if o == 34 || o == 92 then 92 ∷ o ∷ [] else (if nat_le 32 o && nat_le o 126 then o ∷ [] else 92 ∷ three_digits o)

-- whether an octet does not stand for itself there
abbrev pub is_escaped : ℕ → Bool
is_escaped o = not (nat_le 32 o && nat_le o 126) || (o == 34 || o == 92)

abbrev pub string_text : List ℕ → List ℕ
string_text string = flat_map octet_text string
