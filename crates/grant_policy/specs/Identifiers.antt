-- What callers, requests and rules are called.
use Rattle.std.specs.Prelude.{ℕ, ◌<◌, ◌≤◌, List, length, Bool, ◌||◌, ◌==◌, IsTrue}
use Rattle.std.specs.List.{list_all}
use Rattle.std.specs.Char.{is_ascii_alphanumeric}

-- a letter, a digit, `-`, `_` or `.`
abbrev pub is_identifier_octet : ℕ → Bool
is_identifier_octet o = is_ascii_alphanumeric o || (o == 45 || (o == 95 || o == 46))

-- 1 to 64 octets, each of them such
pub record IsIdentifier (text : List ℕ) : Type 0 where
  pub octets : IsTrue (list_all is_identifier_octet text)
  pub not_empty : 0 < length text
  pub short : length text ≤ 64
