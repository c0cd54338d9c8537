-- The fields of record data: which kinds there are, and which values each holds.
use Rattle.std.specs.Prelude.{ℕ, List, ◌<◌, ◌^◌}
use Rattle.std.specs.Net.Addr.{IsIpv4Addr, IsIpv6Addr}
use Rattle.std.specs.declared.net.ipv4_addr.Ipv4Addr.{Ipv4Addr}
use Rattle.std.specs.declared.net.ipv6_addr.Ipv6Addr.{Ipv6Addr}
use Rattle.dns_names.specs.Labels.{IsName}
use Rattle.dns_data.specs.Strings.{AreStrings}
use Rattle.dns_data.specs.Digests.{IsDigest}

-- a number of 8, 16 or 32 bits
pub data Width : Type 0 where
  U8 : Width
  U16 : Width
  U32 : Width

abbrev pub bits : Width → ℕ
bits U8 = 8
bits U16 = 16
bits U32 = 32

-- what a field of one item holds: a domain name, a number, a duration in seconds or an address
pub data Kind : Type 0 where
  Name : Kind
  Number : Width → Kind
  Seconds : Kind
  Ipv4 : Kind
  Ipv6 : Kind

-- the fields of data, in order. Character-strings and a digest take all items that are left
infixr 60 ◌▸◌
pub data Fields : Type 0 where
  End : Fields
  ◌▸◌ : Kind → Fields → Fields
  Strings : Fields
  Digest : Fields

-- ---- values

abbrev pub Value : Kind → Type 0
Value Name = List (List ℕ)
Value (Number width) = ℕ
Value Seconds = ℕ
Value Ipv4 = Ipv4Addr
Value Ipv6 = Ipv6Addr

abbrev pub Values : Fields → Type 0
Values End = Unit {0}
Values (kind ▸ fields) = Value kind × Values fields
Values Strings = List (List ℕ)
Values Digest = List ℕ

abbrev pub IsValue : (kind : Kind) → Value kind → Type 0
IsValue Name name = IsName name
IsValue (Number width) n = n < 2 ^ bits width
IsValue Seconds n = n < 2 ^ 32
IsValue Ipv4 address = IsIpv4Addr address
IsValue Ipv6 address = IsIpv6Addr address

abbrev pub AreValues : (fields : Fields) → Values fields → Type 0
AreValues End values = Unit {0}
AreValues (kind ▸ fields) values = IsValue kind values.0 × AreValues fields values.1
AreValues Strings strings = AreStrings strings
AreValues Digest digest = IsDigest digest
